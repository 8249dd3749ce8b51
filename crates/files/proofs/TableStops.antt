-- A table's file is refused where its first fault is: what refuses a part of the header, or a list, refuses the file, the parts before it being read.
use mathlib.Core.Path.{◌≡◌}
use mathlib.Core.List.{List}
use Prim.Native.Nat.{ℕ}
use Rattle.numbers.specs.declared.refusals.Refusal.{Refusal}
use Rattle.numbers.specs.Reading.{got, bad, version_at}
use Rattle.cells.specs.Columns.{step_columns, push_columns, pop_columns, error_columns}
use Rattle.cells.specs.Rows.{row_at}
use Rattle.lists.specs.Lists.{list_at}
use Rattle.files.specs.declared.header.Header.{Header}
use Rattle.files.specs.Table.{most_steps, most_pushes, most_pops, most_errors}
use Rattle.files.specs.Header.{size_columns, place_columns, local_columns, sizes_of, header_at}
use Rattle.files.specs.File.{table_at}

module _ (s : List ℕ) {x : Refusal} where
  header_refused : header_at s ≡ bad x → table_at s ≡ bad x
  unfolding table_at
  header_refused e = rw e

  module _ (v a : ℕ) (version : version_at s ≡ got v a) where
    pub sizes_refused : row_at size_columns s a ≡ bad x → table_at s ≡ bad x
    unfolding header_at
    sizes_refused e = header_refused (rw version (rw e))

    module _ (z : List ℕ) (b : ℕ) (sizes : row_at size_columns s a ≡ got z b) where
      pub places_refused : row_at (place_columns (sizes_of z)) s b ≡ bad x → table_at s ≡ bad x
      unfolding header_at
      places_refused e = header_refused (rw version (rw sizes (rw e)))

      pub locals_refused : (q : List ℕ) (c : ℕ) → row_at (place_columns (sizes_of z)) s b ≡ got q c → row_at (local_columns (sizes_of z)) s c ≡ bad x
          → table_at s ≡ bad x
      unfolding header_at
      locals_refused q c places e = header_refused (rw version (rw sizes (rw places (rw e))))

  module _ (h : Header) (a : ℕ) (header : header_at s ≡ got h a) where
    pub steps_refused : list_at most_steps (step_columns h.sizes) s a ≡ bad x → table_at s ≡ bad x
    unfolding table_at
    steps_refused e = rw header (rw e)

    module _ (st : List (List ℕ)) (b : ℕ) (steps : list_at most_steps (step_columns h.sizes) s a ≡ got st b) where
      pub pushes_refused : list_at most_pushes (push_columns h.sizes) s b ≡ bad x → table_at s ≡ bad x
      unfolding table_at
      pushes_refused e = rw header (rw steps (rw e))

      module _ (pu : List (List ℕ)) (c : ℕ) (pushes : list_at most_pushes (push_columns h.sizes) s b ≡ got pu c) where
        pub pops_refused : list_at most_pops (pop_columns h.sizes) s c ≡ bad x → table_at s ≡ bad x
        unfolding table_at
        pops_refused e = rw header (rw steps (rw pushes (rw e)))

        pub errors_refused : (po : List (List ℕ)) (d : ℕ) → list_at most_pops (pop_columns h.sizes) s c ≡ got po d
            → list_at most_errors (error_columns h.sizes) s d ≡ bad x → table_at s ≡ bad x
        unfolding table_at
        errors_refused po d pops e = rw header (rw steps (rw pushes (rw pops (rw e))))
