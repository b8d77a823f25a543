-- A fresh box follows the reads, and at the end what is kept is its last section.
use native.Mathlib.Omega.{arith}
use mathlib.Core.Path.{ap, ◌∙◌}
use Rattle.stream.specs.Tallied.{begun}
use Rattle.stream.proofs.Laws.{roomy, room-left}
use Rattle.capture.proofs.Laws.{all-gathered}
use Rattle.capture.proofs.gather.Goals as goal

pub returns : goal.returns
returns g c =
    let x = c.args in
    let given = c.follow-followed.ensures.followed_as in
    let fresh = c.begin.ensures ∙ ap (begun x.map) c.requires.language_value in (
      given.0,
      all-gathered x.map _ x.store.now x.buffer.now c.follow-followed.result _ _ given.0 _ _ fresh c.requires.store_value given.1
          c.finish-tally.ensures,
    )

pub follow-followed-requires : goal.follow-followed-requires
follow-followed-requires g c = record {
  buffer_len = c.requires.buffer_len;
  room = roomy _ _ _ c.begin.ensures (omega arith);
}

pub slice_bounds-finish-end-2 : goal.slice_bounds-finish-end-2
slice_bounds-finish-end-2 g c = c.follow-followed.ensures.followed_as.1.kept

pub finish-tally-requires : goal.finish-tally-requires
finish-tally-requires g c =
    room-left _ _ _ c.begin.ensures _ c.follow-followed.ensures.grew (omega arith)
