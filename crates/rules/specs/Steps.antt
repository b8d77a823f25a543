-- Document 01, "Holding and going live": what is held of one table, when it is well formed, and what a section does to it. How many sections
-- a table may have is an argument, `limit`.
use Rattle.std.specs.Prelude.{ℕ, ◌+◌, ◌-◌, ◌/◌, ◌%◌, ◌^◌, Bool, true, false, cond, not, ◌&&◌, ◌||◌, leb, ltb, eqb, Result, Ok, Err}
use Rattle.std.specs.Int.Bits.{bit_or}
use Rattle.std.specs.Int.Count.{ones}
use Rattle.rules.specs.declared.LiveVersion.{LiveVersion}
use Rattle.rules.specs.declared.GatheredVersion.{GatheredVersion}
use Rattle.rules.specs.declared.Holding.{Holding}
use Rattle.rules.specs.declared.Revision.{Revision}
use Rattle.rules.specs.declared.Answer.{Answer}
use Rattle.rules.specs.declared.Answer.TheVariants.{OtherMap, Repeat, Stored, Live}
use Rattle.rules.specs.Refusals.{OrRefused, wrong, right, number}
use Rattle.rules.specs.declared.Refusal.{Refusal}
use Rattle.rules.specs.declared.Stepped as code

unfoldable pub none_live : LiveVersion
none_live = record { present = 0; version = 0; last = 0 }

unfoldable pub none_gathered : GatheredVersion
none_gathered = record { present = 0; version = 0; last = 0; held = 0 }

-- "Fresh: nothing live, nothing gathered, and the half set to 1."
unfoldable pub fresh_holding : Holding
fresh_holding = record { live = none_live; gathered = none_gathered; half = 1 }

-- ---- the numbers held, as bits: bit n is section n

unfoldable pub holds : (held n : ℕ) → Bool
holds held n = eqb (held / 2 ^ n % 2) 1

-- all of 0 to last
unfoldable pub all_of : (last : ℕ) → ℕ
all_of last = 2 ^ (last + 1) - 1

-- ---- "Versions are compared for equality only; 0 after 31 is nothing special."

unfoldable pub is_live : Holding → (v : ℕ) → Bool
is_live h v = eqb h.live.present 1 && eqb h.live.version v

unfoldable pub is_gathered : Holding → (v : ℕ) → Bool
is_gathered h v = eqb h.gathered.present 1 && eqb h.gathered.version v

-- ---- refusal 2: "state not well formed". Each definition says what is good; `present` is 1, or 0 for none.

-- refused: version above 31, last above 3; an absent one with a field not zero
unfoldable pub live_formed : (limit : ℕ) → LiveVersion → Bool
live_formed limit l =
    cond (eqb l.present 1)
    (leb l.version 31 && ltb l.last limit)
    (eqb l.present 0 && eqb l.version 0 && eqb l.last 0)

-- refused: gathered numbers empty; complete; beyond last, which is a bit above the last + 1 lowest
unfoldable pub held_formed : (held last : ℕ) → Bool
held_formed held last = not (eqb held 0) && not (eqb held (all_of last)) && ltb held (2 ^ (last + 1))

-- refused: the same as of the live version; gathered numbers as above; an absent one with a field not zero
unfoldable pub gathered_formed : (limit : ℕ) → GatheredVersion → Bool
gathered_formed limit g =
    cond (eqb g.present 1)
    (leb g.version 31 && ltb g.last limit && held_formed g.held g.last)
    (eqb g.present 0 && eqb g.version 0 && eqb g.last 0 && eqb g.held 0)

-- live and gathered version equal
unfoldable pub same_version : Holding → Bool
same_version h = eqb h.gathered.present 1 && is_live h h.gathered.version

-- refused: half above 1; "the half may be either" where nothing is live
unfoldable pub holding_formed : (limit : ℕ) → Holding → Bool
holding_formed limit h =
    leb h.half 1 && live_formed limit h.live && gathered_formed limit h.gathered && not (same_version h)

-- ---- "For a section (v, n, last) that reads right, in this order": steps 2 to 6, on the holding of its table

-- step 3: v live or being gathered with a different last
unfoldable pub has_other_last : Holding → Revision → Bool
has_other_last h r =
    (is_live h r.version && not (eqb h.live.last r.last))
    || (is_gathered h r.version && not (eqb h.gathered.last r.last))

-- step 4: v live, or n already held for the gathered v; "the first one held stays"
unfoldable pub is_repeat : Holding → Revision → Bool
is_repeat h r = is_live h r.version || (is_gathered h r.version && holds h.gathered.held r.number)

-- step 5: v not being gathered: what was gathered is dropped, v begins with n alone; else n joins
unfoldable pub held_with : Holding → Revision → ℕ
held_with h r = cond (is_gathered h r.version) (bit_or h.gathered.held (2 ^ r.number)) (2 ^ r.number)

-- step 6: v is live, gathering is empty, halves change roles
unfoldable pub gone_live : Holding → Revision → Holding
gone_live h r =
    record {
      live = record { present = 1; version = r.version; last = r.last };
      gathered = none_gathered;
      half = 1 - h.half;
    }

-- step 6: v is being gathered, and these numbers of it are held
unfoldable pub gathering : Holding → Revision → (held : ℕ) → Holding
gathering h r held =
    record {
      live = h.live;
      gathered = record { present = 1; version = r.version; last = r.last; held = held };
      half = h.half;
    }

-- the answer, with what is then held
pub record Stepped : Type 0 where
  pub answer : OrRefused Answer
  pub holding : Holding

-- what the code answers to a section, so told: a refusal leaves what is held
abbrev pub stepped : Holding → Result code.Stepped Refusal → Stepped
stepped h (Ok s) = record { answer = right s.answer; holding = s.holding }
stepped h (Err r) = record { answer = wrong (number r); holding = h }

-- step 6: if all of 0 to last are held: live, with v; else stored, with how many sections are still missing
unfoldable pub live_or_stored : Holding → Revision → (held : ℕ) → Stepped
live_or_stored h r held =
    cond (eqb held (all_of r.last))
    (record { answer = right (Live r.version); holding = gone_live h r })
    (record { answer = right (Stored (r.last + 1 - ones held)); holding = gathering h r held })

-- step 2: last above 3: refusal 12; step 3: refusal 13; step 4: repeat; steps 5 and 6
unfoldable pub step_of : (limit : ℕ) → Holding → Revision → Stepped
step_of limit h r =
    cond (leb limit r.last) (record { answer = wrong 12; holding = h })
    (cond (has_other_last h r) (record { answer = wrong 13; holding = h })
    (cond (is_repeat h r) (record { answer = right Repeat; holding = h })
    (live_or_stored h r (held_with h r))))

-- the answers of steps 5 and 6; "refusals, other map and repeat leave state and store untouched"
abbrev pub takes_in : OrRefused Answer → Bool
takes_in (wrong n) = false
takes_in (right OtherMap) = false
takes_in (right Repeat) = false
takes_in (right (Stored missing)) = true
takes_in (right (Live v)) = true
