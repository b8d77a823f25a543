-- One read after the other, from the first to the end of the input.
use Prim.Native.Nat.{ℕ, zero, suc, ◌+◌, ◌-◌, ◌*◌, ◌≤◌, ◌<◌}
use native.Mathlib.{Nat.min-le_right, Omega.arith}
use mathlib.Core.Path.{◌≡◌, refl, sym, ap, ◌∙◌}
use mathlib.Core.Bool.{Bool, true, false, cond}
use mathlib.Core.List.{List, [], ◌∷◌, ◌++◌, append_assoc}
use lib.{IntN.ℤ, IntN.pos, IntN.negsuc, ListN.length, ListN.take, ListN.drop, Dec.eqb}
use lib.Seq.{length-take-le, take_at, drop_at, drop-drop, take-append-le}
use borrow.Author.Tests.{eq-eqb, ne_eqb}
use borrow.Rule.Slice.PartMut.{mid_of, put_mid, mid_len}
use Rattle.rules.specs.{Bytes.from, Holding.put, Lineup.english, Lineup.fresh_box}
use Rattle.rules.specs.Feeding.{Intake, unfinished, begin, feed, feed_all, finish}
use Rattle.stream.specs.{declared.Tally.Tally, declared.Absorbed.Absorbed, Tallied.intake_of, Tallied.begun, Tallied.Grew}
use Rattle.stream.specs.Tallied as tallied
use Rattle.capture.specs.declared.Got.{Got}
use Rattle.capture.specs.declared.Followed.{Followed}
use Rattle.capture.specs.declared.Gathered.{Gathered}
use Rattle.capture.specs.Read.{Given, clamp_len, got_by, to_end, Ended, followed, gathered, held_in, FollowedAs, GatheredAs}

-- ---- one read

clamped-within : (z : ℤ) (n : ℕ) → clamp_len z n ≤ n
clamped-within (pos k) n = min-le_right k n
clamped-within (negsuc k) n = omega arith

-- no more bytes than were lent
pub within : (g : Given) → (got_by g).count ≤ length g.part
unfolding got_by
within g = clamped-within g.answer (length g.part)

put-parts : (b part : List ℕ) (at : ℕ) → put b at part ≡ take at b ++ (part ++ drop (at + length part) b)
unfolding put
put-parts b part at = append_assoc (take at b) part (drop (at + length part) b)

-- `&mut buffer[kept..]`, as the read left it, stands in the buffer again
module _ (b part : List ℕ) (kept : ℕ) (h : kept ≤ length b) (e : length part ≡ length (mid_of kept (length b - kept) b)) where
  lent : length part ≡ length b - kept
  lent = e ∙ mid_len kept (length b) b (omega arith)

  pub put_back : put_mid kept (length b - kept) b part ≡ put b kept part
  put_back =
      ap (λ (rest : List ℕ). take kept b ++ (part ++ rest)) (drop-drop (length b - kept) kept b ∙ ap (λ (n : ℕ). drop (kept + n) b) (sym lent))
      ∙ sym (put-parts b part kept)

  pub room : (g : Given) (n : ℕ) → part ≡ g.part → n ≡ (got_by g).count → kept + n ≤ length b
  room g n p c = omega (arith, lent, c, within g, ap length p)

-- ---- a turn of the loop, on bytes that are kept at the front of the buffer

module _ (t : Tally) (store b : List ℕ) (kept : ℕ) (inside : kept ≤ length b) (g : Given) (r : Got) (e : r ≡ got_by g) (b' : List ℕ)
    (f : b' ≡ put b kept g.part) where
  count-is : (got_by g).count ≡ r.count
  count-is = sym (ap (λ (q : Got). q.count) e)

  size : length (take kept b) ≡ kept
  size = length-take-le kept b inside

  filled : put b (length (take kept b)) g.part ≡ b'
  filled = ap (λ (n : ℕ). put b n g.part) size ∙ sym f

  -- the read leaves what is kept alone
  kept-stays : take kept b' ≡ take kept b
  kept-stays = ap (take kept) (f ∙ put-parts b g.part kept) ∙ take_at (take kept b) (g.part ++ drop (kept + length g.part) b) kept size

  -- and what it gave stands behind it
  piece_is : take r.count (from b' kept) ≡ take (got_by g).count g.part
  unfolding from
  piece_is =
      ap (λ (l : List ℕ). take r.count (drop kept l)) (f ∙ put-parts b g.part kept)
      ∙ ap (take r.count) (drop_at (take kept b) (g.part ++ drop (kept + length g.part) b) kept size)
      ∙ ap (λ (n : ℕ). take n (g.part ++ drop (kept + length g.part) b)) (sym count-is)
      ∙ take-append-le (got_by g).count g.part (drop (kept + length g.part) b) (within g)

  -- no bytes: the end
  pub at-end : r.count ≡ 0
      → record { intake = intake_of t store (take kept b'); buffer = b'; failed = r.failed } ≡ followed (intake_of t store (take kept b)) b (g ∷ [])
  unfolding followed intake_of
  at-end none =
      let last : Ended = record { intake = intake_of t store (take kept b); buffer = put b (length (take kept b)) g.part; failed = (got_by g).failed } in
      let same : record { intake = intake_of t store (take kept b'); buffer = b'; failed = r.failed } ≡ last = rw (kept-stays, filled, e) in
      same ∙ rw (eq-eqb (got_by g).count 0 (count-is ∙ none))

  -- bytes: they are fed
  module _ (some : r.count ≡ 0 → ⊥) (u : Tally) (store' b'' : List ℕ) (n : ℕ)
      (fed : intake_of u store' (take n b'') ≡ feed (intake_of t store (take kept b')) (take r.count (from b' kept)))
      (moved : b'' ≡ put b' 0 (unfinished (take (kept + r.count) b'))) (many : n ≡ length (unfinished (take (kept + r.count) b'))) where
    fed-is : feed (intake_of t store (take kept b)) (take (got_by g).count g.part) ≡ intake_of u store' (take n b'')
    fed-is =
        let read : (kept piece : List ℕ) → Intake = λ k p. feed (intake_of t store k) p in
        sym (fed ∙ ap (λ (k : List ℕ). read k (take r.count (from b' kept))) kept-stays ∙ ap (read (take kept b)) piece_is)

    in-front : take n b'' ≡ unfinished (take (kept + r.count) b')
    unfolding put
    in-front = ap (take n) moved ∙ take_at (unfinished (take (kept + r.count) b')) _ n (sym many)

    buffer-is : put b' 0 (take n b'') ≡ b''
    buffer-is = ap (put b' 0) in-front ∙ sym moved

    pub turn : (gs : List Given) → followed (intake_of t store (take kept b)) b (g ∷ gs) ≡ followed (intake_of u store' (take n b'')) b'' gs
    unfolding followed intake_of
    turn gs =
        let step : List ℕ → Intake → Ended = λ l i. followed i (put l 0 i.kept) gs in
        let more : eqb (got_by g).count 0 ≡ false = ne_eqb (got_by g).count 0 (λ z. some (sym count-is ∙ z)) in
        rw more refl
        ∙ ap (λ (l : List ℕ). step l (feed (intake_of t store (take kept b)) (take (got_by g).count g.part))) filled
        ∙ ap (step b') fed-is
        ∙ ap (λ (l : List ℕ). followed (intake_of u store' (take n b'')) l gs) buffer-is

-- ---- from the start

end_read : (reads : ℕ) (g : Given) → 0 < reads → (got_by g).count ≡ 0 → to_end reads (g ∷ []) ≡ true
unfolding to_end
end_read zero g h e = absurd (omega arith)
end_read (suc reads) g h e = rw (eq-eqb (got_by g).count 0 e)

one-read : (reads : ℕ) (g : Given) (gs : List Given) → 0 < reads → ((got_by g).count ≡ 0 → ⊥) → to_end reads (g ∷ gs) ≡ to_end (reads - 1) gs
unfolding to_end
one-read zero g gs h ne = absurd (omega arith)
one-read (suc reads) g gs h ne =
    let left : reads ≡ suc reads - 1 = omega arith in
    rw (ne_eqb (got_by g).count 0 ne) (ap (λ (n : ℕ). to_end n gs) left)

-- what is followed from here is followed from the start, with the reads made until here in front
pub record Going (start : Tally) (store₀ buffer₀ : List ℕ) (reads : ℕ) (h : Absorbed) (store buffer : List ℕ) : Type 0 where
  pub made : List Given → List Given
  pub all : (gs : List Given) → to_end 140737488355328 (made gs) ≡ to_end reads gs
  pub is : (gs : List Given) → followed (intake_of start store₀ []) buffer₀ (made gs) ≡ followed (held_in h store buffer) buffer gs
  pub few : reads ≤ 140737488355328
  pub short : h.kept ≤ 4097
  pub grew : Grew start h.tally ((140737488355328 - reads) * 65536)

pub going : (t : Tally) (store buffer : List ℕ) → Going t store buffer 140737488355328 (record { tally = t; kept = 0 }) store buffer
unfolding held_in
going t store buffer =
    record {
      made = λ gs. gs;
      all = λ gs. refl;
      is = λ gs. refl;
      few = omega arith;
      short = omega arith;
      grew = record { sections = omega arith; refused = omega arith };
    }

module _ {start : Tally} {store₀ buffer₀ : List ℕ} {reads : ℕ} {h : Absorbed} {store buffer : List ℕ}
    (w : Going start store₀ buffer₀ reads h store buffer) (long : length buffer ≡ 65536) where
  inside : h.kept ≤ length buffer
  inside = omega (arith, long, w.short)

  -- 2^47 reads of 2^16 bytes have no more than 2^63 sections
  most : Grew start h.tally 9223372036854775808
  most = record { sections = omega (arith, w.grew.sections); refused = omega (arith, w.grew.refused) }

  -- what `follow` promises
  abbrev Left : Absorbed → Bool → (store' buffer' : List ℕ) → Type 0
  Left q failed store' buffer' =
      ((given : List Given) × FollowedAs given start store₀ buffer₀ (record { held = q; failed = failed }) store' buffer')
      × (Grew start q.tally 9223372036854775808 × (q.kept ≤ 4097))

  -- no read is left
  pub used-up : reads ≤ 0 → Left h false store buffer
  unfolding followed to_end
  used-up z =
      let none : reads ≡ 0 = omega arith in (
        (w.made [], record { all = w.all [] ∙ ap (λ (n : ℕ). to_end n []) none; is = sym (w.is []); kept = sym (length-take-le h.kept buffer inside) }),
        (most, w.short),
      )

  module _ (more : 0 < reads) (g : Given) (r : Got) (e : r ≡ got_by g) (b : List ℕ) (f : b ≡ put buffer h.kept g.part) where
    -- the end of the input
    pub ended : r.count ≡ 0 → length b ≡ length buffer → Left h r.failed store b
    unfolding held_in
    ended none same = (
      (
        w.made (g ∷ []),
        record {
          all = w.all (g ∷ []) ∙ end_read reads g more (sym (ap (λ (q : Got). q.count) e) ∙ none);
          is = at-end h.tally store buffer h.kept inside g r e b f none ∙ sym (w.is (g ∷ []));
          kept = sym (length-take-le h.kept b (omega (arith, same, inside)));
        },
      ),
      (most, w.short),
    )

    -- a piece
    pub going_on : (r.count ≡ 0 → ⊥) → (q : Absorbed) (store' b' : List ℕ)
        → intake_of q.tally store' (take q.kept b') ≡ feed (intake_of h.tally store (take h.kept b)) (take r.count (from b h.kept))
        → b' ≡ put b 0 (unfinished (take (h.kept + r.count) b)) → q.kept ≡ length (unfinished (take (h.kept + r.count) b)) → q.kept ≤ 4097
        → Grew h.tally q.tally 65536 → Going start store₀ buffer₀ (reads - 1) q store' b'
    unfolding held_in
    going_on some q store' b' fed moved many short grew =
        record {
          made = λ gs. w.made (g ∷ gs);
          all = λ gs. w.all (g ∷ gs) ∙ one-read reads g gs more (λ z. some (ap (λ (p : Got). p.count) e ∙ z));
          is = λ gs. w.is (g ∷ gs) ∙ turn h.tally store buffer h.kept inside g r e b f some q.tally store' b' q.kept fed moved many gs;
          few = omega (arith, w.few);
          short = short;
          grew = record {
            sections = omega (arith, w.few, w.grew.sections, grew.sections);
            refused = omega (arith, w.few, w.grew.refused, grew.refused);
          };
        }

-- ---- a fresh box, and its last section

pub all-gathered : (map : ℕ) (t : Tally) (store buffer : List ℕ) (r : Followed) (store' buffer' : List ℕ) (given : List Given) (u : Tally) (last : List ℕ)
    → t ≡ begun map english → store ≡ (fresh_box map).store → FollowedAs given t store buffer r store' buffer'
    → intake_of u last [] ≡ finish (intake_of r.held.tally store' (take r.held.kept buffer'))
    → GatheredAs given map buffer (record { tally = u; failed = r.failed }) last buffer'
unfolding gathered held_in begun intake_of begin fresh_box
all-gathered map t store buffer r store' buffer' given u last e f w d =
    let finished : Ended → Ended = λ x. record { intake = finish x.intake; buffer = x.buffer; failed = x.failed } in
    record {
      all = w.all;
      is =
          ap (λ (i : Intake). record { intake = i; buffer = buffer'; failed = r.failed }) d
          ∙ ap finished (w.is ∙ rw (e, f) refl);
    }

-- ---- the pieces alone

pieces_in : List Given → List (List ℕ)
pieces_in [] = []
pieces_in (g ∷ gs) = cond (eqb (got_by g).count 0) [] (take (got_by g).count g.part ∷ pieces_in gs)

fed_by : (i : Intake) (buffer : List ℕ) (given : List Given) → (followed i buffer given).intake ≡ feed_all i (pieces_in given)
unfolding followed feed_all pieces_in
fed_by i buffer [] = refl
fed_by i buffer (g ∷ gs) =
    let fed = feed i (take (got_by g).count g.part) in
    by-test (eqb (got_by g).count 0) _ _ (pieces_in gs) refl (fed_by fed (put (put buffer (length i.kept) g.part) 0 fed.kept) gs)
  where
    by-test : (last : Bool) (x y : Ended) (ps : List (List ℕ)) → x.intake ≡ i → y.intake ≡ feed_all (feed i (take (got_by g).count g.part)) ps
        → (cond last x y).intake ≡ feed_all i (cond last [] (take (got_by g).count g.part ∷ ps))
    by-test true x y ps e f = e
    by-test false x y ps e f = f

-- what a fresh box has gathered is what some pieces make of it
pub some-pieces : {given : List Given} {map : ℕ} {buffer : List ℕ} {r : Gathered} {store' buffer' : List ℕ} → GatheredAs given map buffer r store' buffer'
    → tallied.Gathered map r.tally store'
unfolding gathered
some-pieces {given} {map} {buffer} w =
    record { pieces = pieces_in given; is = ap (λ (e : Ended). e.intake) w.is ∙ ap finish (fed_by (begin map) buffer given) }
