-- One piece fed to a fresh box, and what is behind its whole sections offered as the last.
use native.Mathlib.Omega.{arith}
use mathlib.Core.{Path.ap, Path.◌∙◌, List.[], List.◌∷◌}
use borrow.Author.Rules.{rules}
use Rattle.rules.specs.{Lineup.text, Lineup.english, Feeding.feed, Feeding.feed_all}
use Rattle.stream.specs.{Tallied.intake_of, declared.Tally.Tally}
use Rattle.stream.proofs.Laws.{rest-is, gathered, roomy, room-left}
use Rattle.runs.proofs.gather.Goals as goal

pub feed-fed-requires : goal.feed-fed-requires
unfolding feed_all english text
feed-fed-requires c = roomy _ _ _ c.begin.ensures (search rules)

pub finish-requires : goal.finish-requires
unfolding feed_all english text
finish-requires c =
    room-left _ _ _ c.begin.ensures _ c.feed-fed.ensures.grew (omega (arith, c.well_formed))

pub returns : goal.returns
unfolding feed_all english text
returns c =
    let p = c.args.sections.now in
    let s = c.args.store.now in
    gathered c.args.map _ _ s _ (p ∷ []) c.requires
    (ap (intake_of c.feed-fed.result.tally c.feed-fed.new.store) (rest-is p c.feed-fed.result.used) ∙ c.feed-fed.ensures.used_after
    ∙ ap (λ (t : Tally). feed (intake_of t s []) p) c.begin.ensures) c.finish.ensures
