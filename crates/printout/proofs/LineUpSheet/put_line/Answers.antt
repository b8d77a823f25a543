-- The line of the line-up.
use Rattle.printout.specs.Lines.{box_of, longest}
use Rattle.printout.proofs.Laws.{of-line-up}
use Rattle.printout.proofs.LineUpSheet.put_line.Goals as goal

pub channel_line-requires : goal.channel_line-requires
unfolding longest
channel_line-requires c = c.requires.labels_in_bounds

pub returns : goal.returns
unfolding box_of
returns c =
    let f = c.args.found.now in
    of-line-up (box_of f.state f.store.now) _ c.requires.tuned_value c.channel_line.ensures
