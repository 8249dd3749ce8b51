-- What is put, and then something else at the place past it, are their join that is put: a run of stores past a run of stores is one run.
use mathlib.Core.Path.{◌≡◌, ◌∙◌}
use mathlib.Core.List.{List, [], ◌∷◌, ◌++◌}
use Prim.Native.Nat.{ℕ, suc, ◌+◌}
use native.Mathlib.Nat.{add-zero, add-suc, suc-add}
use native.Mathlib.Omega.{arith}
use lib.ListN.{length, set, length-append}
use lib.Seq.{sets}
use Rattle.numbers.specs.Putting.{Put}

pub sets_append : (xs ys d : List ℕ) (b : ℕ) → sets (sets d b xs) (b + length xs) ys ≡ sets d b (xs ++ ys)
sets_append [] ys d b = rw (add-zero b)
sets_append (x ∷ xs) ys d b = rw (add-suc b (length xs), ← suc-add b (length xs)) (sets_append xs ys (set d b x) (suc b))

pub put_then : {xs ys d d' d'' : List ℕ} {at m r : ℕ} → Put xs at d d' m → Put ys m d' d'' r → Put (xs ++ ys) at d d'' r
put_then {xs} {ys} {d} {at = at} p q =
    record {
      bytes = q.bytes ∙ cc (p.bytes, p.next, sets_append xs ys d at);
      next = omega (arith, p.next, q.next, length-append xs ys);
    }
