-- From the run to the screen (specs/Sent.antt): what a channel of a box that began fresh is tuned to, and each line that is printed of it, stands in
-- records of sections that were sent. Every live section is one of the run (`live-sent`), and tuning answers by the live records (`answered`).
use Prim.Native.Nat.{ℕ, zero, suc, ◌+◌, ◌≤◌, ◌<◌}
use native.Mathlib.Omega.{arith}
use mathlib.Core.Path.{◌≡◌, refl, ap, subst, ◌∙◌}
use mathlib.Core.{Logic.◌⊎◌, Logic.inl, Logic.inr}
use mathlib.Core.List.{List, [], ◌∷◌, ◌++◌, flatten}
use lib.{ListN.length, ListN.take, ListN.drop, ListN.take-append-drop}
use borrow.Author.Tests.{ne_eqb, le-ltb}
use Rattle.rules.specs.{Bytes.word, Bytes.from, Layout.Numbered, Section.Structure, Section.Content, Section.wrong, Section.right}
use Rattle.rules.specs.{Section.Reading, Section.read_section, Section.length_of, Steps.fresh_holding}
use Rattle.rules.specs.Holding.{section_at, holding_of, live_at, read_for, Box, run, box}
use Rattle.rules.specs.Tuning.{carriers_in, modes_in, channels_in, ranges_in, live_count, live_reading, records_in, live_section, live_records, Plant, plant, tune}
use Rattle.rules.specs.Answered.{First, Nowhere, Lowest, CarrierIs, ModeIs, ChannelIs, RangeIs, Carried, Tunes, application, no_carrier, out_of_reach}
use Rattle.rules.specs.Answered.{analogue, no_mode, digital, Defined, Looked, not_defined, no_record, recorded, EachLive, Answered}
use Rattle.rules.specs.Answered.{short, unformed, high, not_live, unread, looked_up}
use Rattle.rules.specs.Lineup.{cut, sections_of, english, fresh_box, channel_line, channel_lines, lines_of, printed, printed_of, lineup}
use Rattle.rules.specs.Sent as Sent
use Rattle.rules.specs.Sent.{SentAs, RecordSent, ChannelSent, FrequencySent, ModeSent, Screen, LabelSent, RunToScreen, LineupSent}
use Rattle.rules.specs.Labelling.{NameIs, names_in, NamedBy}
use Rattle.rules.specs.{declared.Table.Table, declared.Channel.Channel, declared.Tuned.Tuned, declared.Mode.Mode}
use Rattle.rules.specs.declared.Table.TheVariants.{Cds, Mms, Vcm, Dcm, Ntt}
use Rattle.rules.proofs.{States.lawful, States.all-fresh, Sent.live-sent, Answered.answered, Lowest.live-lowest, Firsts.parted, Firsts.nothing-in}
use Rattle.rules.proofs.{Places.from-length, SentOnce.sent_once, Labels.named-is}
use Rattle.rules.specs.Refusals.{OrRefused}

-- ---- tuning

module _ (start : Box) (new : (t : Table) → holding_of start.state t ≡ fresh_holding) (sections : List (List ℕ)) where
  abbrev end : Box
  end = run start sections

  -- the first match of a table's live records stands in a section that was sent
  module _ {R : Type 0} (P : R → Type 0) (records : Structure → List R) (t : Table) (on : (holding_of end.state t).live.present ≡ 1) (r : R) where
    record-sent : First P (live_records records end.state end.store t) r → RecordSent start sections P records t r
    unfolding live_section live_reading live_count records_in read_for
    record-sent f = go (live-lowest P records end.state end.store t r f)
      where
        at : ℕ → List ℕ
        at n = section_at end.store (live_at end.state t n)

        lower : (n : ℕ) → n ≤ (holding_of end.state t).live.last → ((m : ℕ) → m < n → Nowhere P (records_in records (read_section (at m))))
            → (m : ℕ) → m < n → (x : List ℕ) → SentAs box start sections t m x → (d : Content) → read_section x ≡ right d
            → Nowhere P (records d.structure)
        lower n le low m lt x s d e =
            let same : at m ≡ x = sent_once box lawful start sections t m _ _ (live-sent box lawful start new sections t on m (omega (arith, le, lt))) s in
            subst (λ (q : Reading). Nowhere P (records_in records q)) (ap read_section same ∙ e) (low m lt)

        stands : (n : ℕ) → n ≤ (holding_of end.state t).live.last → ((m : ℕ) → m < n → Nowhere P (records_in records (read_section (at m))))
            → (reading : Reading) → read_section (at n) ≡ reading → (before behind : List R)
            → records_in records reading ≡ before ++ (r ∷ behind) → P r → Nowhere P before → RecordSent start sections P records t r
        stands n le low (wrong k) e before behind q has none = absurd (nothing-in before r behind q)
        stands n le low (right c) e before behind q has none =
            record {
              number = n;
              section = at n;
              sent = live-sent box lawful start new sections t on n le;
              content = c;
              reads = e;
              above = before;
              below = behind;
              stands = q;
              has = has;
              none_above = none;
              none_lower = lower n le low;
            }

        go : Lowest P (live_section records end.state end.store t) (live_count end.state t) 0 r → RecordSent start sections P records t r
        go l =
            stands l.section (omega (arith, l.low)) (λ m lt. l.none_below m (omega arith) lt) _ refl l.first.before l.first.behind
            l.first.stands l.first.has l.first.none_before

  module _ (number : ℕ) (on : EachLive end.state) where
    abbrev p : Plant
    p = plant end.state end.store

    channel_sent : (e : Numbered Channel) → Defined p number → First (ChannelIs number) p.channels e → ChannelSent start sections number e.what
    unfolding plant
    channel_sent e d f =
        record {
          range = d.range;
          range_sent = record-sent (RangeIs number) ranges_in Dcm (on.live Dcm refl) d.range d.first;
          defined = d.is;
          entry = e;
          sent = record-sent (ChannelIs number) channels_in Vcm (on.live Vcm refl) e f;
          is = refl;
        }

    frequency-sent : (c : Channel) (khz : ℕ) → Carried p c khz → 54000 ≤ khz → khz ≤ 1002000 → FrequencySent start sections c khz
    unfolding plant
    frequency-sent c khz k low most =
        record {
          refers = k.refers;
          entry = k.entry;
          sent = record-sent (CarrierIs c.carrier) carriers_in Cds (on.live Cds refl) k.entry k.first;
          is = k.is;
          low = low;
          high = most;
        }

    mode-sent : (reference : ℕ) (m : Numbered Mode) → 0 < reference → First (ModeIs reference) p.modes m → ModeSent start sections reference m.what
    unfolding plant
    mode-sent reference m some f =
        record { refers = some; entry = m; sent = record-sent (ModeIs reference) modes_in Mms (on.live Mms refl) m f; is = refl }

    tuned-sent : (e : Numbered Channel) (x : OrRefused Tuned) → Defined p number → First (ChannelIs number) p.channels e → Tunes p e.what x
        → Screen start sections number x
    tuned-sent e x d f (application is) = Sent.application (channel_sent e d f) is
    tuned-sent e x d f (no_carrier a b) = Sent.refused
    tuned-sent e x d f (out_of_reach a k b) = Sent.refused
    tuned-sent e x d f (analogue a k low most is) = Sent.analogue (channel_sent e d f) a is (frequency-sent e.what _ k low most)
    tuned-sent e x d f (no_mode a k low most is b) = Sent.refused
    tuned-sent e x d f (digital {m = m} a k low most is some first) =
        Sent.digital (channel_sent e d f) a is (frequency-sent e.what _ k low most) (mode-sent _ m some first)

    looked-sent : (x : OrRefused Tuned) → Looked p number x → Screen start sections number x
    looked-sent x (not_defined n) = Sent.refused
    looked-sent x (no_record d n) = Sent.refused
    looked-sent x (recorded {e = e} d f t) = tuned-sent e x d f t

  pub screen-sent : (number : ℕ) → Screen start sections number (tune end.state end.store number)
  screen-sent number = go (tune end.state end.store number) (answered end.state end.store number)
    where
      go : (x : OrRefused Tuned) → Answered end.state end.store number x → Screen start sections number x
      go x (short h) = Sent.refused
      go x (unformed h f) = Sent.refused
      go x (high h f n) = Sent.refused
      go x (not_live a n) = Sent.refused
      go x (unread a l n) = Sent.refused
      go x (looked_up a l r u) = looked-sent number l x u

  -- ---- labels

  label-sent : (number start-at size : ℕ) → NamedBy end.state end.store number start-at size
      → LabelSent start sections number (take size (drop start-at end.store))
  label-sent number start-at size n =
      let r = n.recorded in
      record {
        channel = n.channel;
        channel_sent = rw r.is (channel_sent number r.labelable.live r.entry r.defined r.first);
        entry = n.entry;
        sent = record-sent (NameIs n.channel.application n.channel.source) names_in Ntt n.live n.entry n.first;
        is = n.bytes;
      }

-- ---- the printed lines

-- a list of one
alone : (x : List ℕ) (before : List (List ℕ)) (line : List ℕ) (behind : List (List ℕ)) → (x ∷ []) ≡ before ++ (line ∷ behind) → (x ∷ []) ≡ line ∷ []
alone x [] line behind e = let is : x ≡ line = cc in ap (λ (l : List ℕ). l ∷ []) is
alone x (y ∷ before) line behind e = absurd (nothing-in before line behind cc)

-- a channel has one line or none
one_line : (number : ℕ) (x : OrRefused Tuned) (before : List (List ℕ)) (line : List ℕ) (behind : List (List ℕ))
    → channel_line number x ≡ before ++ (line ∷ behind) → channel_line number x ≡ line ∷ []
unfolding channel_line
one_line number (wrong n) before line behind e = absurd (nothing-in before line behind e)
one_line number (right (Tuned.Digital h p k g m)) before line behind e = alone _ before line behind e
one_line number (right (Tuned.Analogue h p k s c)) before line behind e = alone _ before line behind e
one_line number (right (Tuned.Application h p a)) before line behind e = alone _ before line behind e

-- a line of n channels from a number on is that of one of them
record Of (tuned : ℕ → OrRefused Tuned) (n number : ℕ) (line : List ℕ) : Type 0 where
  channel : ℕ
  from : number ≤ channel
  low : channel < number + n
  is : channel_line channel (tuned channel) ≡ line ∷ []

line-of : (tuned : ℕ → OrRefused Tuned) (n number : ℕ) (above : List (List ℕ)) (line : List ℕ) (below : List (List ℕ))
    → channel_lines (λ k. channel_line k (tuned k)) n number ≡ above ++ (line ∷ below) → Of tuned n number line
unfolding channel_lines
line-of tuned zero number above line below e = absurd (nothing-in above line below e)
line-of tuned (suc n) number above line below e =
    go (parted (channel_line number (tuned number)) (channel_lines (λ k. channel_line k (tuned k)) n (number + 1)) above line below e)
    (λ more. line-of tuned n (number + 1) more line below)
  where
    go : ((rest : List (List ℕ)) × (channel_line number (tuned number) ≡ above ++ (line ∷ rest)))
        ⊎ ((more : List (List ℕ)) × (above ≡ channel_line number (tuned number) ++ more)
        × (channel_lines (λ k. channel_line k (tuned k)) n (number + 1) ≡ more ++ (line ∷ below)))
        → ((more : List (List ℕ)) → channel_lines (λ k. channel_line k (tuned k)) n (number + 1) ≡ more ++ (line ∷ below) → Of tuned n (number + 1) line)
        → Of tuned (suc n) number line
    go (inl (rest, q)) later =
        record { channel = number; from = omega arith; low = omega arith; is = one_line number (tuned number) above line rest q }
    go (inr (more, q, f)) later =
        let o = later more f in
        record { channel = o.channel; from = omega (arith, o.from); low = omega (arith, o.low); is = o.is }

-- ---- the sections of the input are all its bytes

cut_all : (most : ℕ) (bs : List ℕ) → length bs ≤ most → flatten (cut most bs) ≡ bs
unfolding cut flatten from
cut_all zero [] h = refl
cut_all zero (x ∷ bs) h = absurd (omega arith)
cut_all (suc most) [] h = refl
cut_all (suc most) (x ∷ bs) h =
    let left = from-length (x ∷ bs) (3 + length_of (x ∷ bs)) in
    rw (ne_eqb (length (x ∷ bs)) 0 (λ e. omega (arith, e)))
    (ap (λ (l : List ℕ). take (3 + length_of (x ∷ bs)) (x ∷ bs) ++ l) (cut_all most (from (x ∷ bs) (3 + length_of (x ∷ bs))) (omega (arith, left)))
    ∙ take-append-drop (3 + length_of (x ∷ bs)) (x ∷ bs))

-- ---- from the run to the screen

pub run_to_screen : (start : Box) → ((t : Table) → holding_of start.state t ≡ fresh_holding) → (sections : List (List ℕ)) → RunToScreen start sections
unfolding lines_of
run_to_screen start new sections =
    record {
      live = live-sent box lawful start new sections;
      tuned = screen-sent start new sections;
      labelled = λ number at size e.
          label-sent start new sections number at size (named-is (run start sections).state (run start sections).store number at size e);
      printed = λ above below line e.
          let o = line-of (tune (run start sections).state (run start sections).store) 4096 0 above line below e in
          record {
            number = o.channel;
            low = omega (arith, o.low);
            is = o.is;
            screen = screen-sent start new sections o.channel;
          };
    }

pub lineup_sent : (input : List ℕ) → 2 ≤ length input → LineupSent input (fresh_box (word 0 input)) (sections_of (from input 2))
unfolding lineup printed_of printed fresh_box sections_of
lineup_sent input long =
    record {
      is = rw (le-ltb (length input) 2 long) refl;
      to_screen = run_to_screen (fresh_box (word 0 input)) (all-fresh (word 0 input) english) (sections_of (from input 2));
      all_bytes = cut_all (length (from input 2)) (from input 2) (omega arith);
    }
