-- Five lines, one behind the other.
use native.Mathlib.Omega.{arith}
use Rattle.rules.specs.Lineup.{text, line, version_lines}
use Rattle.text.proofs.Written.{then, short}
use Rattle.text.specs.Written.{line_of}
use Rattle.text.proofs.put_versions.Goals as goal

pub returns : goal.returns
unfolding version_lines line line_of text
returns c =
    short (then (then (then (then c.put_version-cds.ensures.1 c.put_version-mms.ensures.1) c.put_version-vcm.ensures.1) c.put_version-dcm.ensures.1)
    c.put_version.ensures.1)
    (omega (
      arith,
      c.put_version-cds.ensures.0,
      c.put_version-mms.ensures.0,
      c.put_version-vcm.ensures.0,
      c.put_version-dcm.ensures.0,
      c.put_version.ensures.0,
    ))
