-- A state as bytes, and states and answers as numbers.
use Rattle.std.specs.Prelude.{ℕ, ◌+◌, ◌*◌, cond, List, [], ◌∷◌}
use lib.{Dec.leb, Dec.eqb, ListN.length}
use Rattle.rules.specs.Bytes.{byte}
use Rattle.rules.specs.declared.Holding.{Holding}
use Rattle.rules.specs.declared.Mode.{Mode}
use Rattle.rules.specs.declared.State.{State}
use Rattle.rules.specs.declared.Answer.{Answer}
use Rattle.rules.specs.declared.Answer.TheVariants.{OtherMap, Repeat, Stored, Live}
use Rattle.rules.specs.declared.Tuned.{Tuned}
use Rattle.rules.specs.declared.Labelled.{Labelled}
use Rattle.rules.specs.Holding.{put}
use Rattle.rules.specs.Gathering.{Outcome}
use Rattle.rules.specs.Refusals.{OrRefused, wrong, right}

-- eight bytes for a table: live present, version, last; gathered present, version, last, held; half
unfoldable pub holding_from : List ℕ → (at : ℕ) → Holding
holding_from b at =
    record {
      live = record { present = byte at b; version = byte (at + 1) b; last = byte (at + 2) b };
      gathered =
          record { present = byte (at + 3) b; version = byte (at + 4) b; last = byte (at + 5) b; held = byte (at + 6) b };
      half = byte (at + 7) b;
    }

-- three bytes of language
unfoldable pub language_from : List ℕ → (at : ℕ) → List ℕ
language_from b at = byte at b ∷ byte (at + 1) b ∷ byte (at + 2) b ∷ []

-- two bytes of map number, the lower first, then CDS, MMS, VCM, DCM, NTT, then the language; a byte that isn't there is 0
unfoldable pub state_from : List ℕ → State
state_from b =
    record {
      tables =
          record {
            cds = holding_from b 2;
            mms = holding_from b 10;
            vcm = holding_from b 18;
            dcm = holding_from b 26;
            ntt = holding_from b 34;
          };
      settings = record { map = byte 0 b + byte 1 b * 256; language = language_from b 42 };
    }

-- the eight bytes as one number, the first one lowest
unfoldable pub holding_number : Holding → ℕ
holding_number h =
    h.live.present
    + h.live.version * 0x100
    + h.live.last * 0x10000
    + h.gathered.present * 0x1000000
    + h.gathered.version * 0x100000000
    + h.gathered.last * 0x10000000000
    + h.gathered.held * 0x1000000000000
    + h.half * 0x100000000000000

-- the three bytes as one number, the first one lowest
unfoldable pub language_number : List ℕ → ℕ
language_number l = byte 0 l + byte 1 l * 0x100 + byte 2 l * 0x10000

-- part 0 is the map number, parts 1 to 5 are the tables, part 6 is the language; no other part is there
unfoldable pub state_part : State → (part : ℕ) → ℕ
state_part s part =
    cond (eqb part 0) s.settings.map
    (cond (eqb part 1) (holding_number s.tables.cds)
    (cond (eqb part 2) (holding_number s.tables.mms)
    (cond (eqb part 3) (holding_number s.tables.vcm)
    (cond (eqb part 4) (holding_number s.tables.dcm)
    (cond (eqb part 5) (holding_number s.tables.ntt)
    (cond (eqb part 6) (language_number s.settings.language) 0))))))

-- the kind of the answer, 0 for a refusal, and its number times 256
unfoldable pub answer_number : OrRefused Answer → ℕ
answer_number (wrong n) = n * 256
answer_number (right OtherMap) = 1
answer_number (right Repeat) = 2
answer_number (right (Stored missing)) = 3 + missing * 256
answer_number (right (Live v)) = 4 + v * 256

-- part 7 is the answer
unfoldable pub offered_part : Outcome State → (part : ℕ) → ℕ
offered_part o part = cond (eqb part 7) (answer_number o.answer) (state_part o.state part)

-- ---- what a channel is tuned to

-- a kind, two bytes, and a frequency in kHz from bit 32 on
unfoldable pub head_number : (kind hidden path khz : ℕ) → ℕ
head_number kind hidden path khz = kind + hidden * 0x100 + path * 0x10000 + khz * 0x100000000

-- part 0: the kind of the answer with hidden, path and frequency; with the number of the refusal
unfoldable pub tuned_head : OrRefused Tuned → ℕ
tuned_head (wrong n) = head_number 0 n 0 0
tuned_head (right (Tuned.Digital hidden path khz program mode)) = head_number 1 hidden path khz
tuned_head (right (Tuned.Analogue hidden path khz standard scrambled)) = head_number 2 hidden path khz
tuned_head (right (Tuned.Application hidden path number)) = head_number 3 hidden path 0

-- a programme, and a mode without its symbols
unfoldable pub digital_number : (program : ℕ) → Mode → ℕ
digital_number program m =
    program + m.system * 0x10000 + m.inner * 0x1000000 + m.split * 0x100000000 + m.format * 0x10000000000

-- part 1: programme and mode; standard and scrambled; application number
unfoldable pub tuned_rest : OrRefused Tuned → ℕ
tuned_rest (wrong n) = 0
tuned_rest (right (Tuned.Digital hidden path khz program mode)) = digital_number program mode
tuned_rest (right (Tuned.Analogue hidden path khz standard scrambled)) = standard + scrambled * 0x100
tuned_rest (right (Tuned.Application hidden path number)) = number

-- part 2
unfoldable pub tuned_symbols : OrRefused Tuned → ℕ
tuned_symbols (wrong n) = 0
tuned_symbols (right (Tuned.Digital hidden path khz program mode)) = mode.symbols
tuned_symbols (right (Tuned.Analogue hidden path khz standard scrambled)) = 0
tuned_symbols (right (Tuned.Application hidden path number)) = 0

unfoldable pub tuned_part : OrRefused Tuned → (part : ℕ) → ℕ
tuned_part t part =
    cond (eqb part 0) (tuned_head t)
    (cond (eqb part 1) (tuned_rest t)
    (cond (eqb part 2) (tuned_symbols t) 0))

-- ---- a label

-- part 0: the kind of the answer, with the number of the refusal; parts 1 and 2: where a name begins in the store, and its size
unfoldable pub label_kind : OrRefused Labelled → ℕ
label_kind (wrong n) = n * 256
label_kind (right (Labelled.Named start size)) = 1
label_kind (right Labelled.Fallback) = 2

unfoldable pub label_start : OrRefused Labelled → ℕ
label_start (wrong n) = 0
label_start (right (Labelled.Named start size)) = start
label_start (right Labelled.Fallback) = 0

unfoldable pub label_size : OrRefused Labelled → ℕ
label_size (wrong n) = 0
label_size (right (Labelled.Named start size)) = size
label_size (right Labelled.Fallback) = 0

unfoldable pub label_part : OrRefused Labelled → (part : ℕ) → ℕ
label_part l part =
    cond (eqb part 0) (label_kind l) (cond (eqb part 1) (label_start l) (cond (eqb part 2) (label_size l) 0))

-- its bytes at the front of a buffer, where there is room for them
unfoldable pub shown_in : (bytes out : List ℕ) → List ℕ
shown_in bytes out = cond (leb (length bytes) (length out)) (put out 0 bytes) out
