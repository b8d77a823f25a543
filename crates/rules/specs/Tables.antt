-- Document 01, "Bytes of a section": the records of the tables and the heads of VCM and DCM, bit by bit; and of "Numbers of
-- refusal" their clauses of 10 (first index 0 is the header's: Form.antt). Where document 003 says another limit, document 01
-- wins. At the end the names of request 2026-01.
use Rattle.std.specs.Prelude.{ℕ, ◌+◌, ◌*◌, ◌/◌, ◌%◌, Bool, true, false, cond, ◌&&◌, ◌||◌, List, [], ◌∷◌, leb, ltb, eqb}
use Rattle.rules.specs.Bytes.{byte, word, from}
use Rattle.rules.specs.Text.{good_text}
use Rattle.rules.specs.Layout.{Block, fixed, Layout}
use Rattle.rules.specs.declared.Measure.{Measure}
use Rattle.rules.specs.declared.Carriers.{Carriers}
use Rattle.rules.specs.declared.Mode.{Mode}
use Rattle.rules.specs.declared.VcmHead.{VcmHead}
use Rattle.rules.specs.declared.Channel.{Channel}
use Rattle.rules.specs.declared.Signal.{Signal}
use Rattle.rules.specs.declared.Signal.TheVariants.{Digital, Analogue}
use Rattle.rules.specs.declared.DcmHead.{DcmHead}
use Rattle.rules.specs.declared.Range.{Range}

-- ---- CDS record, 5 bytes: carriers; spacing unit (1 bit), zero (1), spacing (14); frequency unit (1), first frequency (15)

unfoldable pub carriers_zeros : List ℕ → Bool
carriers_zeros r = eqb (byte 1 r / 64 % 2) 0

unfoldable pub carriers_of : List ℕ → Carriers
carriers_of r =
    record {
      count = byte 0 r;
      spacing = record { unit = byte 1 r / 128; number = byte 1 r % 64 * 256 + byte 2 r };
      first = record { unit = byte 3 r / 128; number = byte 3 r % 128 * 256 + byte 4 r };
    }

-- "A unit bit of 0 is 10 kHz, 1 is 125 kHz."
unfoldable pub in_khz : Measure → ℕ
in_khz m = cond (eqb m.unit 0) (m.number * 10) (m.number * 125)

-- "Carrier k, from 0, is at first + k x spacing, each in its own unit."
unfoldable pub carrier_khz : Carriers → ℕ → ℕ
carrier_khz c k = in_khz c.first + k * in_khz c.spacing

-- refusal 10: carriers 0; an index above 255. "Each carrier takes one index, counting on from the first index over all records
-- of the section."
unfoldable pub carriers_fair : ℕ → Carriers → Bool
carriers_fair index c = ltb 0 c.count && leb (index + c.count) 256

unfoldable pub cds : Layout Carriers
cds =
    record {
      block = fixed 5 carriers_zeros carriers_of;
      fair = carriers_fair;
      takes = λ c. c.count;
      described = true;
    }

-- ---- MMS record, 6 bytes: system (4), inner coding (4); split (1), zero (2), format (5); zero (4), symbol rate (28)

unfoldable pub mode_zeros : List ℕ → Bool
mode_zeros r = eqb (byte 1 r / 32 % 4) 0 && eqb (byte 2 r / 16) 0

unfoldable pub mode_of : List ℕ → Mode
mode_of r =
    record {
      system = byte 0 r / 16;
      inner = byte 0 r % 16;
      split = byte 1 r / 128;
      format = byte 1 r % 32;
      symbols = byte 2 r % 16 * 16777216 + byte 3 r * 65536 + byte 4 r * 256 + byte 5 r;
    }

unfoldable pub among : ℕ → List ℕ → Bool
among x [] = false
among x (y ∷ ys) = eqb x y || among x ys

-- "System, inner coding and format must be assigned in Tables 5.7, 5.8 and 5.9 of 003; a value marked reserved there is
-- refused." Of the formats 0 to 24 are assigned.
unfoldable pub systems : List ℕ
systems = 0 ∷ 2 ∷ 3 ∷ 4 ∷ []

unfoldable pub inner_codings : List ℕ
inner_codings = 0 ∷ 1 ∷ 3 ∷ 5 ∷ 7 ∷ 8 ∷ 9 ∷ 11 ∷ 15 ∷ []

unfoldable pub assigned : Mode → Bool
assigned m = among m.system systems && among m.inner inner_codings && leb m.format 24

-- refusal 10: unassigned mode value; an index above 255. "One index each."
unfoldable pub mode_fair : ℕ → Mode → Bool
mode_fair index m = assigned m && leb index 255

unfoldable pub mms : Layout Mode
mms = record { block = fixed 6 mode_zeros mode_of; fair = mode_fair; takes = λ m. 1; described = true }

-- ---- VCM: zero (2), descriptors-included (1), zero (5); splice (1), zero (7); activation time (32); record count (8).
-- Splice and time are not acted on.

unfoldable pub vcm_head_zeros : List ℕ → Bool
vcm_head_zeros r = eqb (byte 0 r / 64) 0 && eqb (byte 0 r % 32) 0 && eqb (byte 1 r % 128) 0

unfoldable pub vcm_head_of : List ℕ → VcmHead
vcm_head_of r =
    record {
      included = byte 0 r / 32 % 2;
      splice = byte 1 r / 128;
      time = byte 2 r * 16777216 + byte 3 r * 65536 + byte 4 r * 256 + byte 5 r;
      count = byte 6 r;
    }

unfoldable pub vcm_head : Block VcmHead
vcm_head = fixed 7 vcm_head_zeros vcm_head_of

-- ---- Channel record, 9 bytes: zero (4), number (12); application (1), zero (1), path (1), transport (1), type (4); source or
-- application number (16); carrier reference (8); then for transport 0 programme (16) and mode reference (8), for
-- transport 1 scrambled (1), zero (3), video standard (4) and 16 zero bits

unfoldable pub transport_of : List ℕ → ℕ
transport_of r = byte 2 r / 16 % 2

unfoldable pub channel_zeros : List ℕ → Bool
channel_zeros r =
    eqb (byte 0 r / 16) 0
    && eqb (byte 2 r / 64 % 2) 0
    && cond (eqb (transport_of r) 0) true (eqb (byte 6 r / 16 % 8) 0 && eqb (byte 7 r) 0 && eqb (byte 8 r) 0)

unfoldable pub signal_of : List ℕ → Signal
signal_of r = cond (eqb (transport_of r) 0) (Digital (word 6 r) (byte 8 r)) (Analogue (byte 6 r / 128) (byte 6 r % 16))

unfoldable pub channel_of : List ℕ → Channel
channel_of r =
    record {
      number = byte 0 r % 16 * 256 + byte 1 r;
      application = byte 2 r / 128;
      path = byte 2 r / 32 % 2;
      kind = byte 2 r % 16;
      source = word 3 r;
      carrier = byte 5 r;
      signal = signal_of r;
    }

unfoldable pub standard_fair : Signal → Bool
standard_fair (Digital program mode) = true
standard_fair (Analogue scrambled standard) = leb standard 4

-- refusal 10: channel type above 1; video standard above 4
unfoldable pub channel_fair : ℕ → Channel → Bool
channel_fair index c = leb c.kind 1 && standard_fair c.signal

-- a channel record carries its number itself and takes no index; descriptors follow if descriptors-included is 1
unfoldable pub vcm : (included : ℕ) → Layout Channel
vcm included =
    record {
      block = fixed 9 channel_zeros channel_of;
      fair = channel_fair;
      takes = λ c. 0;
      described = eqb included 1;
    }

-- ---- DCM: zero (4), first channel (12); zero (1), data length (7)

unfoldable pub dcm_head_zeros : List ℕ → Bool
dcm_head_zeros r = eqb (byte 0 r / 16) 0 && eqb (byte 2 r / 128) 0

unfoldable pub dcm_head_of : List ℕ → DcmHead
dcm_head_of r = record { first = byte 0 r % 16 * 256 + byte 1 r; count = byte 2 r % 128 }

unfoldable pub dcm_head : Block DcmHead
dcm_head = fixed 3 dcm_head_zeros dcm_head_of

-- ---- a range byte: range-defined (1), channel count (7)

unfoldable pub range_of : List ℕ → Range
range_of r = record { defined = byte 0 r / 128; count = byte 0 r % 128 }

-- refusal 10: channel count 0; a DCM range past 4095
unfoldable pub range_fair : ℕ → Range → Bool
range_fair first r = ltb 0 r.count && leb (first + r.count) 4096

-- the first range begins at first channel, each other one where the range before it ends
unfoldable pub dcm : Layout Range
dcm =
    record {
      block = fixed 1 (λ r. true) range_of;
      fair = range_fair;
      takes = λ r. r.count;
      described = false;
    }

-- ---- Request 2026-01, "the Network Text Table, 0xC3, source name subtable 6". NTT: record count (8)

unfoldable pub ntt_head : Block ℕ
ntt_head = fixed 1 (λ r. true) (byte 0)

-- ---- a name record, 4 bytes and the name: application (1), zero (7); number (16); name length (8); so many bytes of name

pub record Name : Type 0 where
  pub application : ℕ
  pub number : ℕ
  pub name : List ℕ

unfoldable pub name_zeros : List ℕ → Bool
name_zeros r = eqb (byte 0 r % 128) 0

unfoldable pub name_of : List ℕ → Name
name_of r = record { application = byte 0 r / 128; number = word 1 r; name = from r 4 }

-- refusal 10: "also for text that breaks section 7.1"
unfoldable pub name_fair : ℕ → Name → Bool
name_fair index n = good_text n.name

-- a name record carries its number itself and takes no index; a descriptor count and descriptors follow, always
unfoldable pub ntt : Layout Name
ntt =
    record {
      block = record { size = 4; more = byte 3; zeros = name_zeros; look = name_of };
      fair = name_fair;
      takes = λ n. 0;
      described = true;
    }
