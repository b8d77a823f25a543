-- A section that reads right, told by its parts: no byte before its CRC belongs to no part, and what it says stands in them.
use Rattle.std.specs.Prelude.{ℕ, ◌+◌, ◌-◌, ◌/◌, ◌%◌, ◌≤◌, ◌≡◌, true, List, [], ◌∷◌, length}
use Rattle.rules.specs.Bytes.{byte}
use Rattle.rules.specs.Crc.{crc_of}
use Rattle.rules.specs.Descriptors.{bodies}
use Rattle.rules.specs.Form.{form}
use Rattle.rules.specs.Section.{length_of, revision_tag, Content, without_crc}
use Rattle.rules.specs.Parts.{Parts, bytes_of, Shaped, said, Fair}
use Rattle.rules.specs.declared.Table.{Table}
use Rattle.rules.specs.declared.Revision.{Revision}

-- a revision that is read from the one body there is
pub record ReadFrom (r : Revision) (bs : List (List ℕ)) : Type 0 where
  pub body : List ℕ
  pub one : bs ≡ body ∷ []
  pub long : 3 ≤ length body
  pub low : byte 1 body ≤ byte 2 body
  pub is : r ≡ record { version = byte 0 body % 32; number = byte 1 body; last = byte 2 body }

-- parts that read right as those of a table, with a revision: they are shaped as its form says; number, medium and subtype are its own; the
-- zero bits of header and head are 0, and the header is within its limits; so is each record, at the index that it counts on to
pub record PartsRight (t : Table) (p : Parts) (r : Revision) : Type 0 where
  pub shaped : Shaped (form t) p
  pub number : p.number ≡ (form t).number
  pub subtype : byte ((form t).medium - 3) p.header ≡ (form t).subtype
  pub zeros : p.flags / 64 ≡ 0
  pub header_zeros : (form t).header.zeros p.header ≡ true
  pub limits : (form t).limits ((form t).header.look p.header) ≡ true
  pub head_zeros : (form t).head.zeros p.head ≡ true
  pub fair : Fair (form t) p
  pub revision : ReadFrom r (bodies revision_tag p.closing)

-- what they say
abbrev pub content_in : Table → Parts → Revision → Content
content_in t p r = record { table = t; structure = said (form t) p; closing = p.closing; revision = r }

-- check 3: at least 8 bytes, exactly 3 + L, and L at most 1,021
pub record LengthRight (s : List ℕ) : Type 0 where
  pub long : 8 ≤ length s
  pub whole : length s ≡ 3 + length_of s
  pub short : length_of s ≤ 1021

-- a section is the bytes of such parts, and says what they say; checks 3, 5 and 6 of length, CRC and protocol version are passed, and with the number
-- of a table 4 is
pub record InParts (s : List ℕ) (c : Content) : Type 0 where
  pub parts : Parts
  pub right : PartsRight c.table parts c.revision
  pub says : c ≡ content_in c.table parts c.revision
  pub bytes : without_crc s ≡ bytes_of (form c.table) parts
  pub fits : LengthRight s
  pub crc : crc_of s ≡ 0
  pub protocol : byte 3 s % 32 ≡ 0
