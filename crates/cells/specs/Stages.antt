-- What a private function answers: the columns below the sizes. Only its contract cites this file.
use Rattle.std.specs.Prelude.{List, [], ◌∷◌}
use Rattle.cells.specs.declared.columns.Column.{Column}
use Rattle.cells.specs.declared.columns.Column.TheVariants.{Below}
use Rattle.cells.specs.declared.columns.Sizes.{Sizes}

-- columns of a thread, a shared store, a local store and a frame
abbrev pub below : Sizes → List Column
below z = Below z.threads ∷ Below z.shared ∷ Below z.locals ∷ Below z.frames ∷ []
