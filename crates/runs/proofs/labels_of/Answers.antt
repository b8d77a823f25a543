-- As in the program, with one piece.
use native.Mathlib.Omega.{arith}
use mathlib.Core.{Path.refl, Path.ap, Path.◌∙◌, List.[], List.◌∷◌}
use Rattle.rules.specs.LabelLines.{labels}
use Rattle.printout.proofs.Shown.{labels-shown, labels-refused-shown}
use Rattle.runs.proofs.Laws.{two-first}
use Rattle.runs.proofs.labels_of.Goals as goal

pub returns-then-input-lt2 : goal.returns-then-input-lt2
returns-then-input-lt2 c =
    let r = c.labels_refused.ensures in
    let input = c.args.input.now in record {
      lines_after = labels-refused-shown input refl c.if-input-lt2.true r.wrote;
      counts = r.counts;
      counts_2 = (omega arith, refl);
    }

pub returns : goal.returns
returns c =
    let g = c.gather-tally in
    let m = c.map_of in
    let p = c.print_labels.ensures in
    let input = c.args.input.now in record {
      lines_after = labels-shown input m.result g.result _ m.ensures (record { pieces = _ ∷ []; is = g.ensures }) p.wrote p.wrote_2
          ∙ ap labels (two-first input c.if-input-lt2.false);
      counts = p.counts;
      counts_2 = p.counts_2;
    }

pub gather-tally-requires : goal.gather-tally-requires
gather-tally-requires c = rw c.map_of.ensures c.requires
