-- Document 01, "What the box reads" and "Bytes of a section": what a table is, as data. A form says a table's number and subtype, its
-- header, the head of its structure, the layout of its records, from which index and how many there are, and whose records they are. `form`
-- is the one place that names the tables' layouts: reading, growth, and where records stand are said once, of every form.
use Rattle.std.specs.Prelude.{ℕ, ◌/◌, Bool, true, false, List, [], ◌∷◌, ltb, eqb}
use Rattle.rules.specs.Bytes.{byte, word}
use Rattle.rules.specs.Layout.{Block, fixed, Layout, Numbered}
use Rattle.rules.specs.Tables.{cds, mms, vcm_head, vcm, dcm_head, dcm, Name, ntt_head, ntt}
use Rattle.rules.specs.declared.Table.{Table}
use Rattle.rules.specs.declared.Table.TheVariants.{Cds, Mms, Vcm, Dcm, Ntt}
use Rattle.rules.specs.declared.Carriers.{Carriers}
use Rattle.rules.specs.declared.Mode.{Mode}
use Rattle.rules.specs.declared.Channel.{Channel}
use Rattle.rules.specs.declared.Range.{Range}
use Rattle.rules.specs.declared.Language.{Language}

-- ---- what a section says

-- in front of the records, the header's fields and then the head's; 0 where a table has no such field
pub record Front : Type 0 where
  -- 0xC4: map number
  pub map : ℕ
  -- 0xC3: language
  pub language : Language
  -- 0xC2: first index; DCM: first channel. The records count on from it
  pub first : ℕ
  -- 0xC2, VCM and 0xC3: record count; DCM: data length. So many records follow
  pub count : ℕ
  -- VCM: descriptors-included, splice and activation time
  pub included : ℕ
  pub splice : ℕ
  pub time : ℕ

-- records, table by table: a section lists those of its own table and none of the others
pub record Plant : Type 0 where
  pub carriers : List (Numbered Carriers)
  pub modes : List (Numbered Mode)
  pub channels : List (Numbered Channel)
  pub ranges : List (Numbered Range)
  pub names : List (Numbered Name)

-- ---- what a table is

pub record Form : Type 1 where
  -- byte 0; the place of the byte of medium and subtype, and that byte, with medium 0
  pub number : ℕ
  pub medium : ℕ
  pub subtype : ℕ
  -- the header from byte 3 on, and its limits, else 10; whether it has a map number, and whether a language
  pub header : Block Front
  pub limits : Front → Bool
  pub mapped : Bool
  pub spoken : Bool
  -- the head of its structure, and what it adds to what the header says
  pub Head : Type 0
  pub head : Block Head
  pub joined : Front → Head → Front
  -- its records, laid out by what stands in front of them; the plant that has just these, and those that a plant has
  pub Row : Type 0
  pub layout : Front → Layout Row
  pub says : List (Numbered Row) → Plant
  pub rows_in : Plant → List (Numbered Row)

-- byte 3: 3 zero bits, 5 bits protocol version
unfoldable pub protocol_zeros : List ℕ → Bool
protocol_zeros r = eqb (byte 0 r / 32) 0

-- where there is no language
unfoldable pub no_language : Language
no_language = record { first = 0; second = 0; third = 0 }

-- "0xC2: first index, record count, then 4 bits medium and 4 bits subtype; the records"
unfoldable pub counted_header : Block Front
counted_header =
    fixed 4 protocol_zeros (λ r.
    record { map = 0; language = no_language; first = byte 1 r; count = byte 2 r; included = 0; splice = 0; time = 0 })

-- there is no head
unfoldable pub no_head : Block (Unit {0})
no_head = fixed 0 (λ r. true) (λ r. tt)

-- refusal 10: first index 0
abbrev pub network : {R : Type 0} → (subtype : ℕ) → Layout R → (List (Numbered R) → Plant) → (Plant → List (Numbered R))
    → Form
network {R} subtype layout says rows_in =
    record {
      number = 0xC2;
      medium = 6;
      subtype = subtype;
      header = counted_header;
      limits = λ x. ltb 0 x.first;
      mapped = false;
      spoken = false;
      Head = Unit {0};
      head = no_head;
      joined = λ x h. x;
      Row = R;
      layout = λ x. layout;
      says = says;
      rows_in = rows_in;
    }

-- "0xC4: 4 bits medium, 4 bits subtype, 16 bits map number, then the structure"
unfoldable pub map_header : Block Front
map_header =
    fixed 4 protocol_zeros (λ r.
    record { map = word 2 r; language = no_language; first = 0; count = 0; included = 0; splice = 0; time = 0 })

abbrev pub channel_table : {H R : Type 0} → (subtype : ℕ) → Block H → (Front → H → Front) → (Front → Layout R)
    → (List (Numbered R) → Plant) → (Plant → List (Numbered R)) → Form
channel_table {H} {R} subtype head joined layout says rows_in =
    record {
      number = 0xC4;
      medium = 4;
      subtype = subtype;
      header = map_header;
      limits = λ x. true;
      mapped = true;
      spoken = false;
      Head = H;
      head = head;
      joined = joined;
      Row = R;
      layout = layout;
      says = says;
      rows_in = rows_in;
    }

-- request 2026-01, 0xC3: 24 bits language, then 4 bits medium and 4 bits subtype; the structure
unfoldable pub name_header : Block Front
name_header =
    fixed 5 protocol_zeros (λ r.
    record {
      map = 0;
      language = record { first = byte 1 r; second = byte 2 r; third = byte 3 r };
      first = 0;
      count = 0;
      included = 0;
      splice = 0;
      time = 0;
    })

-- ---- "Four tables: the carrier (CDS) and modulation (MMS) subtables of the Network Information Table, 0xC2, subtypes 1 and 2; the
-- virtual channel map (VCM) and defined channels map (DCM) of the Short-form Virtual Channel Table, 0xC4, subtypes 0 and 1." Request
-- 2026-01: "the Network Text Table, 0xC3, source name subtable 6, as a fifth table after DCM"

abbrev pub form : Table → Form
form Cds =
    network 1 cds (λ rs. record { carriers = rs; modes = []; channels = []; ranges = []; names = [] }) (λ p. p.carriers)
form Mms =
    network 2 mms (λ rs. record { carriers = []; modes = rs; channels = []; ranges = []; names = [] }) (λ p. p.modes)
form Vcm =
    channel_table 0 vcm_head
    (λ x h.
    record {
      map = x.map;
      language = x.language;
      first = 0;
      count = h.count;
      included = h.included;
      splice = h.splice;
      time = h.time;
    })
    (λ x. vcm x.included) (λ rs. record { carriers = []; modes = []; channels = rs; ranges = []; names = [] })
    (λ p. p.channels)
form Dcm =
    channel_table 1 dcm_head
    (λ x h.
    record {
      map = x.map;
      language = x.language;
      first = h.first;
      count = h.count;
      included = 0;
      splice = 0;
      time = 0;
    })
    (λ x. dcm) (λ rs. record { carriers = []; modes = []; channels = []; ranges = rs; names = [] }) (λ p. p.ranges)
form Ntt =
    record {
      number = 0xC3;
      medium = 7;
      subtype = 6;
      header = name_header;
      limits = λ x. true;
      mapped = false;
      spoken = true;
      Head = ℕ;
      head = ntt_head;
      joined = λ x count.
          record { map = 0; language = x.language; first = 0; count = count; included = 0; splice = 0; time = 0 };
      Row = Name;
      layout = λ x. ntt;
      says = λ rs. record { carriers = []; modes = []; channels = []; ranges = []; names = rs };
      rows_in = λ p. p.names;
    }

-- all of them, "in the order CDS, MMS, VCM, DCM", and "a fifth table after DCM"
abbrev pub tables : List Table
tables = Cds ∷ Mms ∷ Vcm ∷ Dcm ∷ Ntt ∷ []
