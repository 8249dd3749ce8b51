-- How passes over sets of uses are put together: one use, one pass after another, a loop of passes, a pass under another premise. Each law has
-- two sides. A pass that looks keeps the smallest of what lacks in its parts. A pass that puts goes on with the trace of puts; if it put
-- nothing at all, no part of it did, so the memory is the same throughout and nothing lacks in any part.
use mathlib.Core.Path.{◌≡◌, refl, sym, subst, ◌∙◌}
use mathlib.Core.Bool.{Bool, true, false}
use mathlib.Core.Logic.{◌⊎◌, inl, inr}
use mathlib.Core.List.{List}
use Prim.Native.Nat.{ℕ, ◌+◌, ◌<◌, ◌≤◌, min}
use native.Mathlib.Nat.{add-zero, add-suc, not-suc-le-zero}
use native.Mathlib.Decide.{dec_lt}
use native.Mathlib.Omega.{arith}
use Rattle.store.specs.Marking.{room, Has, SomeIn, LacksIn, marked}
use Rattle.store.proofs.MarkLaws.{put_room, has_kept}
use Rattle.uses.specs.declared.lines.Pass.{Pass}
use Rattle.uses.specs.Uses.{Uses, Single, With, Under, Either, Upto, Line, Lacks}
use Rattle.uses.specs.Passing.{Grew, none, more, Puts, Looked, Swept, looks, puts}

-- ---- traces of puts

module _ {U : Uses} {m : List ℕ} where
  pub grew_has : {k : ℕ} {m' : List ℕ} → Grew U m k m' → (p : ℕ) → Has m p → Has m' p
  grew_has none p h = h
  grew_has (more y g l u) p h = has_kept _ y p l (grew_has g p h)

  grew_room : {k : ℕ} {m' : List ℕ} → Grew U m k m' → room m' ≡ room m
  grew_room none = refl
  grew_room (more {m'} y g l u) = put_room m' y ∙ grew_room g

  grew_none : {k : ℕ} {m' : List ℕ} → Grew U m k m' → k ≡ 0 → m' ≡ m
  grew_none none e = refl
  grew_none (more y g l u) e = absurd (omega arith)

grew_then : {U : Uses} {m m₁ m₂ : List ℕ} {i j : ℕ} → Grew U m i m₁ → Grew U m₁ j m₂ → Grew U m (i + j) m₂
grew_then g none = rw add-zero g
grew_then g (more y h l u) = rw add-suc (more y (grew_then g h) l u)

module _ {U : Uses} {b r : Pass} {m m' : List ℕ} (p : Puts U b r m m') where
  pub puts_room : room m' ≡ room m
  puts_room = grew_room p.grew

  pub puts_le : r.left ≤ b.left
  puts_le = omega (arith, p.left)

  -- if as many are left as before, the memory is the same
  pub puts_none : r.left ≡ b.left → m' ≡ m
  puts_none e = grew_none p.grew (omega (arith, p.left))

pub puts_idle : {U : Uses} {b : Pass} {m : List ℕ} → Puts U b b m m
puts_idle = record { count = 0; grew = none; left = omega arith; best = refl }

pub puts_then : {U : Uses} {b r s : Pass} {m m₁ m₂ : List ℕ} → Puts U b r m m₁ → Puts U r s m₁ m₂ → Puts U b s m m₂
puts_then p q =
    record { count = p.count + q.count; grew = grew_then p.grew q.grew; left = omega (arith, p.left, q.left); best = q.best ∙ p.best }

-- ---- other sets with the same uses

module _ {A B : Uses} (to : (q x y : ℕ) → A q x y → B q x y) where
  pub lacks_to : {m : List ℕ} {y : ℕ} → Lacks A m y → Lacks B m y
  lacks_to l = record { q = l.q; x = l.x; given = to _ _ _ l.given; has_q = l.has_q; has_x = l.has_x; not = l.not }

  grew_to : {m m' : List ℕ} {k : ℕ} → Grew A m k m' → Grew B m k m'
  grew_to none = none
  grew_to (more y g l u) = more y (grew_to g) l (lacks_to u)

  pub puts_to : {b r : Pass} {m m' : List ℕ} → Puts A b r m m' → Puts B b r m m'
  puts_to p = record { count = p.count; grew = grew_to p.grew; left = p.left; best = p.best }

  pub first_to : {c s : ℕ} {m : List ℕ} → (s ≡ c) ⊎ Lacks A m s → (s ≡ c) ⊎ Lacks B m s
  first_to (inl e) = inl e
  first_to (inr l) = inr (lacks_to l)

  -- a pass that ends with none left is a pass over more uses
  swept_spent : {put : Bool} {b r : Pass} {m m' : List ℕ} → r.left ≡ 0 → Swept A put b r m m' → Swept B put b r m m'
  swept_spent e (looks k) =
      looks (record { left = k.left; least = λ h. absurd (omega (arith, k.left)); first = first_to k.first; le = k.le })
  swept_spent e (puts p done) = puts (puts_to p) (λ h. absurd (omega arith))

  -- a pass over more uses, if nothing more lacks
  pub swept_more : {put : Bool} {b r : Pass} {m m' : List ℕ} → ((y : ℕ) → Lacks B m y → Lacks A m y) → Swept A put b r m m'
      → Swept B put b r m m'
  swept_more fro (looks k) =
      looks (record { left = k.left; least = λ h y l. k.least h y (fro y l); first = first_to k.first; le = k.le })
  swept_more fro (puts p done) = puts (puts_to p) (λ h e y l. done h e y (fro y l))

module _ {A B : Uses} (to : (q x y : ℕ) → A q x y → B q x y) (fro : (q x y : ℕ) → B q x y → A q x y) where
  pub swept_same : {put : Bool} {b r : Pass} {m m' : List ℕ} → Swept A put b r m m' → Swept B put b r m m'
  swept_same = swept_more to (λ y. lacks_to fro)

-- a pass over a set that is known by an equation
pub swept_of : {I : Type 0} (A : I → Uses) {i j : I} {put : Bool} {b r : Pass} {m m' : List ℕ} → i ≡ j → Swept (A i) put b r m m'
    → Swept (A j) put b r m m'
swept_of {I} A {put} {b} {r} {m} {m'} e s = subst (λ (i : I). Swept (A i) put b r m m') e s

-- ---- what every pass keeps, and the pass that does nothing

module _ {U : Uses} where
  pub looked_idle : {b : Pass} {m : List ℕ} → (0 < b.left → (y : ℕ) → ¬ Lacks U m y) → Looked U b b m
  looked_idle n = record { left = refl; least = λ h y l. absurd (n h y l); first = inl refl; le = omega arith }

  -- nothing lacks
  pub swept_idle : {b : Pass} {m : List ℕ} (put : Bool) → ((y : ℕ) → ¬ Lacks U m y) → Swept U put b b m m
  swept_idle true n = puts puts_idle (λ h e. n)
  swept_idle false n = looks (looked_idle (λ h. n))

  -- none is left
  pub swept_none : {b : Pass} {m : List ℕ} (put : Bool) → b.left ≡ 0 → Swept U put b b m m
  swept_none {b} true e = puts {b = b} {r = b} puts_idle (λ h. absurd (omega arith))
  swept_none {b} false e = looks (looked_idle {b = b} (λ h. absurd (omega arith)))

-- ---- one pass, then another

module _ {A B : Uses} where
  pub either : {m : List ℕ} {y : ℕ} → Lacks (Either A B) m y → Lacks A m y ⊎ Lacks B m y
  either {m} {y} l = go l.given
    where
      go : A l.q l.x y ⊎ B l.q l.x y → Lacks A m y ⊎ Lacks B m y
      go (inl u) = inl (record { q = l.q; x = l.x; given = u; has_q = l.has_q; has_x = l.has_x; not = l.not })
      go (inr u) = inr (record { q = l.q; x = l.x; given = u; has_q = l.has_q; has_x = l.has_x; not = l.not })

  pub looked_then : {b r s : Pass} {m : List ℕ} → Looked A b r m → Looked B r s m → Looked (Either A B) b s m
  looked_then {b} {r} {s} {m} p q =
      record {
        left = q.left ∙ p.left;
        least = λ h y l. least h y (either l);
        first = first p.first q.first;
        le = omega (arith, p.le, q.le);
      }
    where
      least : 0 < b.left → (y : ℕ) → Lacks A m y ⊎ Lacks B m y → s.best ≤ y
      least h y (inl u) = omega (arith, p.least h y u, q.le)
      least h y (inr u) = q.least (omega (arith, p.left)) y u

      first : (r.best ≡ b.best) ⊎ Lacks A m r.best → (s.best ≡ r.best) ⊎ Lacks B m s.best
          → (s.best ≡ b.best) ⊎ Lacks (Either A B) m s.best
      first a (inr u) = inr (lacks_to (λ q x y. inr) u)
      first (inl e) (inl e') = inl (e' ∙ e)
      first (inr u) (inl e') = inr (rw e' (lacks_to (λ q x y. inl) u))

  pub and_then : {put : Bool} {b r s : Pass} {m m₁ m₂ : List ℕ} → Swept A put b r m m₁ → Swept B put r s m₁ m₂
      → Swept (Either A B) put b s m m₂
  and_then (looks p) (looks q) = looks (looked_then p q)
  and_then {b} {r} {s} {m} {m₁} (puts p done) (puts q done') = puts (puts_then (puts_to (λ q x y. inl) p) (puts_to (λ q x y. inr) q)) closed
    where
      closed : 0 < s.left → s.left ≡ b.left → (y : ℕ) → ¬ Lacks (Either A B) m y
      closed h e y l = pick (either l)
        where
          same : r.left ≡ b.left
          same = omega (arith, puts_le p, puts_le q)

          pick : Lacks A m y ⊎ Lacks B m y → ⊥
          pick (inl u) = done (omega arith) same y u
          pick (inr u) = done' h (omega arith) y (subst (λ (z : List ℕ). Lacks B z y) (sym (puts_none p same)) u)

-- ---- a loop of passes

module _ (A : ℕ → Uses) where
  pub upto_none : {put : Bool} {b : Pass} {m : List ℕ} → Swept (Upto A 0) put b b m m
  upto_none {put} = swept_idle put (λ y l. not-suc-le-zero l.given.lt)

  pub upto_next : {i : ℕ} {put : Bool} {b r s : Pass} {m m₁ m₂ : List ℕ} → Swept (Upto A i) put b r m m₁ → Swept (A i) put r s m₁ m₂
      → Swept (Upto A (i + 1)) put b s m m₂
  upto_next {i} a b = swept_same to fro (and_then a b)
    where
      to : (q x y : ℕ) → Either (Upto A i) (A i) q x y → Upto A (i + 1) q x y
      to q x y (inl u) = record { k = u.k; lt = omega (arith, u.lt); given = u.given }
      to q x y (inr u) = record { k = i; lt = omega arith; given = u }

      fro : (q x y : ℕ) → Upto A (i + 1) q x y → Either (Upto A i) (A i) q x y
      fro q x y u = go (dec_lt u.k i)
        where
          go : Dec (u.k < i) → Either (Upto A i) (A i) q x y
          go (yes h) = inl (record { k = u.k; lt = h; given = u.given })
          go (no h) = let e : u.k ≡ i = omega (arith, u.lt) in inr (subst (λ (j : ℕ). A j q x y) e u.given)

  -- a loop that is left early, with none left
  pub upto_spent : {i n : ℕ} {put : Bool} {b r : Pass} {m m' : List ℕ} → i ≤ n → r.left ≡ 0 → Swept (Upto A i) put b r m m'
      → Swept (Upto A n) put b r m m'
  upto_spent h = swept_spent (λ q x y u. record { k = u.k; lt = omega (arith, u.lt); given = u.given })

-- ---- a pass under a test

pub swept_under : {A : Type 0} {U : Uses} {put : Bool} {b r : Pass} {m m' : List ℕ} → A → Swept U put b r m m'
    → Swept (Under A U) put b r m m'
swept_under a s = swept_same (λ q x y u. (a, u)) (λ q x y u. u.1) s

pub swept_never : {A : Type 0} {U : Uses} {b : Pass} {m : List ℕ} (put : Bool) → ¬ A → Swept (Under A U) put b b m m
swept_never put n = swept_idle put (λ y l. n l.given.0)

-- ---- a pass with another premise

-- uses that have one premise
abbrev pub Flat : Uses → Type 0
Flat U = (q x y : ℕ) → U q x y → U x x y

flat_upto : {A : ℕ → Uses} {n : ℕ} → ((i : ℕ) → Flat (A i)) → Flat (Upto A n)
flat_upto f q x y u = record { k = u.k; lt = u.lt; given = f _ _ _ _ u.given }

flat_single : (x y : ℕ) → Flat (Single x y)
flat_single x y q x' y' u = (u.1, u.1, u.2)

pub flat_line : (x y n : ℕ) → Flat (Upto (Line x y) n)
flat_line x y n = flat_upto (λ i. flat_single (x + i) (y + i))

pub flat_under : {A : Type 0} {U : Uses} → Flat U → Flat (Under A U)
flat_under f q x y u = (u.0, f q x y u.1)

module _ {U : Uses} (flat : Flat U) (p : ℕ) where
  lacks_with : {m : List ℕ} {y : ℕ} → Has m p → Lacks U m y → Lacks (With p U) m y
  lacks_with h l = record { q = p; x = l.x; given = (refl, flat _ _ _ l.given); has_q = h; has_x = l.has_x; not = l.not }

  lacks_without : {m : List ℕ} {y : ℕ} → Lacks (With p U) m y → Lacks U m y
  lacks_without l = record { q = l.x; x = l.x; given = l.given.1; has_q = l.has_x; has_x = l.has_x; not = l.not }

  grew_with : {m m' : List ℕ} {k : ℕ} → Has m p → Grew U m k m' → Grew (With p U) m k m'
  grew_with h none = none
  grew_with h (more y g l u) = more y (grew_with h g) l (lacks_with (grew_has g p h) u)

  first_with : {c s : ℕ} {m : List ℕ} → Has m p → (s ≡ c) ⊎ Lacks U m s → (s ≡ c) ⊎ Lacks (With p U) m s
  first_with h (inl e) = inl e
  first_with h (inr l) = inr (lacks_with h l)

  -- where that premise has its mark
  pub swept_with : {put : Bool} {b r : Pass} {m m' : List ℕ} → Has m p → Swept U put b r m m' → Swept (With p U) put b r m m'
  swept_with h (looks k) =
      looks (record { left = k.left; least = λ i y l. k.least i y (lacks_without l); first = first_with h k.first; le = k.le })
  swept_with h (puts s done) =
      puts (record { count = s.count; grew = grew_with h s.grew; left = s.left; best = s.best }) (λ i e y l. done i e y (lacks_without l))

  -- where it has not
  pub swept_without : {b : Pass} {m : List ℕ} (put : Bool) → ¬ Has m p → Swept (With p U) put b b m m
  swept_without put n = swept_idle put (λ y l. n (subst (Has _) l.given.0 l.has_q))

-- ---- one use

lacks_one : {x y : ℕ} {m : List ℕ} → Has m x → ¬ Has m y → Lacks (Single x y) m y
lacks_one {x} h n = record { q = x; x = x; given = (refl, refl, refl); has_q = h; has_x = h; not = n }

module _ {x y : ℕ} {b : Pass} {m : List ℕ} where
  looked_one : {r : Pass} → r.left ≡ b.left → r.best ≤ b.best → r.best ≤ y → (r.best ≡ b.best) ⊎ Lacks (Single x y) m r.best
      → Looked (Single x y) b r m
  looked_one e le le' f = record { left = e; least = λ h z l. omega (arith, l.given.2); first = f; le = le }

  pub one_without : (put : Bool) → ¬ Has m x → Swept (Single x y) put b b m m
  one_without put n = swept_idle put (λ z l. n (subst (Has m) l.given.1 l.has_x))

  pub one_there : (put : Bool) → Has m y → Swept (Single x y) put b b m m
  one_there put h = swept_idle put (λ z l. l.not (subst (Has m) (sym l.given.2) h))

  -- one mark is put, and one less is left
  pub one_put : {put : Bool} {r : Pass} → put ≡ true → y < room m → Has m x → ¬ Has m y → r.best ≡ b.best → b.left ≡ r.left + 1
      → Swept (Single x y) put b r m (marked m y)
  one_put e l h n best left =
      rw e
      (puts (record { count = 1; grew = more y none l (lacks_one h n); left = left; best = best }) (λ i same. absurd (omega arith)))

  -- y lacks, and the smallest so far is kept
  pub one_looks : {put : Bool} {least : ℕ} → put ≡ false → Has m x → ¬ Has m y → least ≡ min y b.best
      → Swept (Single x y) put b (record { best = least; left = b.left }) m m
  one_looks {least} e h n is =
      rw e (looks (looked_one {r = record { best = least; left = b.left }} refl (omega (arith, is)) (omega (arith, is)) (go (dec_lt y b.best))))
    where
      go : Dec (y < b.best) → (least ≡ b.best) ⊎ Lacks (Single x y) m least
      go (yes l) = let here : least ≡ y = omega (arith, is) in inr (rw here (lacks_one h n))
      go (no l) = inl (omega (arith, is))

-- ---- a line of uses

-- no mark lacks its partner
pub line_idle : (x y : ℕ) {n : ℕ} {b : Pass} {m : List ℕ} (put : Bool) → ¬ LacksIn m x y n → Swept (Upto (Line x y) n) put b b m m
line_idle x y put n =
    swept_idle put λ z l.
    let u = l.given in
    n (record { j = u.k; lt = u.lt; here = (subst (Has _) u.given.1 l.has_x, λ h. l.not (subst (Has _) (sym u.given.2) h)) })

-- a line from where its ends are known to be, as long as it is known to be
pub line_at : {x x' y y' n n' : ℕ} {put : Bool} {b r : Pass} {m m' : List ℕ} → x ≡ x' → y ≡ y' → n ≡ n' → Swept (Upto (Line x y) n) put b r m m'
    → Swept (Upto (Line x' y') n') put b r m m'
line_at e f l s = rw (← e, ← f, ← l) s

-- one use, likewise
pub one_at : {x x' y y' : ℕ} {put : Bool} {b r : Pass} {m m' : List ℕ} → x ≡ x' → y ≡ y' → Swept (Single x y) put b r m m'
    → Swept (Single x' y') put b r m m'
one_at {x'} {y} {put} {b} {r} {m} {m'} p q s =
    subst (λ z. Swept (Single x' z) put b r m m') q (subst (λ z. Swept (Single z y) put b r m m') p s)

-- ---- a stretch of facts with no mark

-- if every use from marks has one of them among the n from x on, and there is none, then nothing lacks
pub swept_empty : {U : Uses} (x : ℕ) {n : ℕ} {b : Pass} {m : List ℕ} (put : Bool)
    → ((q z y : ℕ) → U q z y → Has m q → Has m z → SomeIn m x n) → ¬ SomeIn m x n → Swept U put b b m m
swept_empty x put needs n = swept_idle put (λ y l. n (needs _ _ _ l.given l.has_q l.has_x))
