-- What the loop makes of what its reads gave. Of standard input the contract of a read says nothing of the bytes that come, and of another reader
-- nothing that it says is used; so of what was given a contract here says that there is some. By it all else is decided: the answer, every byte of
-- the store and every byte of the buffer.
use Rattle.std.specs.Prelude.{◌≡◌, ℕ, zero, suc, min, ℤ, pos, negsuc, Bool, true, false, cond, List, [], ◌∷◌, length, take, eqb, int_lt}
use Rattle.rules.specs.{Holding.put, Feeding.Intake, Feeding.begin, Feeding.feed, Feeding.finish}
use Rattle.stream.specs.{declared.Tally.Tally, declared.Absorbed.Absorbed, Tallied.intake_of}
use Rattle.capture.specs.declared.Got.{Got}
use Rattle.capture.specs.declared.Followed.{Followed}
use Rattle.capture.specs.declared.Gathered.{Gathered}

-- ---- what comes from outside

-- one read: its answer, which is how many bytes it gave, 0 at the end of the input and negative where it failed; and the part of the buffer that was
-- lent to it, as it left it
pub record Given : Type 0 where
  pub answer : ℤ
  pub part : List ℕ

-- the number of bytes that an answer tells, brought into `0..=most`
abbrev pub clamp_len : ℤ → ℕ → ℕ
clamp_len (pos k) most = min k most
clamp_len (negsuc k) most = 0

unfoldable pub got_by : Given → Got
got_by g = record { count = clamp_len g.answer (length g.part); failed = int_lt g.answer (pos 0) }

-- the reads of a whole input: the last one, and no other, gave no bytes; or so many as are made at most, each of which gave some
unfoldable pub to_end : (most : ℕ) → List Given → Bool
to_end zero gs = eqb (length gs) 0
to_end (suc most) [] = false
to_end (suc most) (g ∷ gs) = cond (eqb (got_by g).count 0) (eqb (length gs) 0) (to_end most gs)

-- ---- what is made of it

pub record Ended : Type 0 where
  pub intake : Intake
  pub buffer : List ℕ
  pub failed : Bool

-- a read is lent the buffer behind the bytes kept. What it gave is fed, and the bytes kept then are put at the front; where it gave none that is the end
unfoldable pub followed : Intake → (buffer : List ℕ) → List Given → Ended
followed i buffer [] = record { intake = i; buffer = buffer; failed = false }
followed i buffer (g ∷ gs) =
    let got = got_by g in
    let filled = put buffer (length i.kept) g.part in
    let fed = feed i (take got.count g.part) in
    cond (eqb got.count 0) (record { intake = i; buffer = filled; failed = got.failed }) (followed fed (put filled 0 fed.kept) gs)

-- from a fresh box to the end of the input, where an unfinished last section is offered
unfoldable pub gathered : (map : ℕ) → (buffer : List ℕ) → List Given → Ended
gathered map buffer given =
    let e = followed (begin map) buffer given in
    record { intake = finish e.intake; buffer = e.buffer; failed = e.failed }

-- ---- what the code answers and leaves, by all reads: no run uses up 2^47 of them

-- the bytes kept are at the front of the buffer
unfoldable pub held_in : Absorbed → (store buffer : List ℕ) → Intake
held_in h store buffer = intake_of h.tally store (take h.kept buffer)

pub record FollowedAs (given : List Given) (start : Tally) (store buffer : List ℕ) (r : Followed) (store' buffer' : List ℕ) : Type 0 where
  pub all : to_end 140737488355328 given ≡ true
  pub is : record { intake = held_in r.held store' buffer'; buffer = buffer'; failed = r.failed } ≡ followed (intake_of start store []) buffer given
  pub kept : r.held.kept ≡ length (take r.held.kept buffer')

pub record GatheredAs (given : List Given) (map : ℕ) (buffer : List ℕ) (r : Gathered) (store' buffer' : List ℕ) : Type 0 where
  pub all : to_end 140737488355328 given ≡ true
  pub is : record { intake = intake_of r.tally store' []; buffer = buffer'; failed = r.failed } ≡ gathered map buffer given
