-- Document 01, "Numbers of refusal": the number of each, and an answer or a refusal in the paper's terms.
use Rattle.std.specs.Prelude.{ℕ, Result, Ok, Err}
use Rattle.rules.specs.declared.Refusal.{Refusal}
use Rattle.rules.specs.declared.Refusal.TheVariants as Refusal

abbrev pub number : Refusal → ℕ
-- store shorter than its places; state not well formed
number Refusal.ShortStore = 1
number Refusal.BadState = 2
-- a section: its size, its table number, its CRC, its protocol version, medium and subtype
number Refusal.BadSize = 3
number Refusal.NoTableNumber = 4
number Refusal.BadCrc = 5
number Refusal.OtherProtocol = 6
number Refusal.NoTable = 7
-- a field, record or descriptor runs into the CRC; a zero bit is 1; outside the limits; the revision descriptor
number Refusal.CutShort = 8
number Refusal.ZeroBits = 9
number Refusal.OutOfLimits = 10
number Refusal.BadRevision = 11
-- last above 3; the version known with another last
number Refusal.TooManySections = 12
number Refusal.OtherLast = 13
-- a channel number above 4095; a needed table isn't live; its place no longer reads right
number Refusal.NoChannelNumber = 14
number Refusal.NotLive = 15
number Refusal.Unreadable = 16
-- channel not defined; no channel record; no carrier; its frequency out of reach; no mode
number Refusal.NotDefined = 17
number Refusal.NoRecord = 18
number Refusal.NoCarrier = 19
number Refusal.OutOfReach = 20
number Refusal.NoMode = 21

-- "A refusal returns its number only."
pub data OrRefused (A : Type 0) : Type 0 where
  wrong : ℕ → OrRefused A
  right : A → OrRefused A

-- what the code answers, so told
abbrev pub by_number : {A : Type 0} → Result A Refusal → OrRefused A
by_number (Ok a) = right a
by_number (Err r) = wrong (number r)
