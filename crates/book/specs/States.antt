-- A table and the two shelves, for the calls that change both.
use Rattle.table.specs.declared.table.Table.{Table}
use Rattle.book.specs.Shelves.{Shelves}

pub record State (P Q : Type 0) : Type 0 where
  pub table : Table
  pub shelves : Shelves P Q

abbrev pub state : {P Q : Type 0} → Table → Shelves P Q → State P Q
state t s = record { table = t; shelves = s }
