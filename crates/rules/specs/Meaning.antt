-- What a section means, for those who compare two of them: its table, map number, language, first index or channel, splice and activation time, and its
-- records. Not part of it are the revision, which says which section of which version it is; lists of descriptors, and whether they are
-- included; how many records are counted; lengths and reserved bits.
use Rattle.std.specs.Prelude.{ℕ}
use Rattle.rules.specs.Form.{Plant}
use Rattle.rules.specs.Section.{Content}
use Rattle.rules.specs.declared.Table.{Table}
use Rattle.rules.specs.declared.Language.{Language}

pub record Meaning : Type 0 where
  pub table : Table
  pub map : ℕ
  pub language : Language
  pub first : ℕ
  pub splice : ℕ
  pub time : ℕ
  pub lists : Plant

unfoldable pub meant : Content → Meaning
meant c =
    let x = c.structure.front in
    record {
      table = c.table;
      map = x.map;
      language = x.language;
      first = x.first;
      splice = x.splice;
      time = x.time;
      lists = c.structure.lists;
    }
