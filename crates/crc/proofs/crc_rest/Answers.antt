-- The register after some bytes goes on over the next one.
use Rattle.std.proofs.Common.{◌≡◌, rules, sym}
use Rattle.std.proofs.lemmas.Fn.{fold_over, fronts, slice_gives}
use Rattle.rules.specs.Crc.{crc_from}
use Rattle.crc.proofs.Laws.{crc-nil, crc-append}
use Rattle.crc.proofs.crc_rest.Goals as goal

pub returns : goal.returns
returns c =
    let start = c.args.start in
    rw c.iter.ensures.rest at
    (fold_over fronts (λ y. y.now) _ (λ ys a. a ≡ crc_from start ys) _
    (λ ys a x b f' j k. rw (crc-append start ys, ← j) (search rules))
    c.iter.result _ _ _ (slice_gives c.iter.result) (sym (crc-nil start)) c.fold.ensures.ran)
