-- The errors that a list of facts allows, as a list of witnesses: at each shared store where thread 0 stands, each choice of a local store
-- that each thread reaches there, and each row by which the two are erroneous. The list is exact, so it decides whether the facts are safe,
-- whether they allow an error by a row, and what the verdict on them is.
use mathlib.Core.Path.{◌≡◌, refl, ap, subst}
use mathlib.Core.Logic.Dec
use mathlib.Core.Logic.{◌⊎◌, inl, inr}
use mathlib.Core.Option.{Option, none, some}
use mathlib.Core.List.Memᴰ
use mathlib.Core.List.{List, [], ◌∷◌, map, flat_map, Memᴰ}
use Prim.Native.Nat.{ℕ, zero, suc, ◌+◌, ◌<◌}
use native.Mathlib.Nat.{zero-add, add-zero, add-suc, suc-add}
use native.Mathlib.Decide.{ℕ_discrete, dec_lt, map_dec}
use native.Mathlib.Omega.{arith}
use lib.ListN.{length, get_or, get_elem?}
use Rattle.files.specs.Table.{Table, Error}
use Rattle.model.specs.Rules.{Fact, G, P, Q}
use Rattle.model.specs.Errors.{Cell, Matches, Erroneous, failed, matched, Reaches, Witness, Allows, Safe}
use Rattle.model.specs.Verdict.{◌≼◌, end, less, more, numbers, SmallestWitness, Verdict, safe, possible}
use Rattle.model.specs.Claims.{AllowsRow}
use Rattle.model.proofs.Lists.{some_lt, mem_first, from_one, from_flat_map, to_flat_map, only, from_only, to_only}
use Rattle.model.proofs.Order.{≼_refl, ≼-antisym, witness_by_numbers}
use Rattle.model.proofs.Decide.{each?, some?, member?, up_to, lt_up_to, all?, any?, Enumerates}

-- ---- erroneous stores

either? : {A B : Type 0} → Dec A → Dec B → Dec (A ⊎ B)
either? (yes a) d = yes (inl a)
either? (no n) (yes b) = yes (inr b)
either? (no n) (no n') = no (λ s. elim s [ inl a ↦ n a | inr b ↦ n' b ])

cell? : (c k : ℕ) → Dec (Cell c k)
unfolding either? ℕ_discrete
cell? c k = either? (ℕ_discrete c 0) (ℕ_discrete c (suc k))

module _ (T : Table) (g : ℕ) (ls : List ℕ) where
  matches? : (r : Error) → Dec (Matches T r g ls)
  unfolding cell? all? Dec.and
  matches? r =
      map_dec (λ (a, b). record { shared = a; locals = b }) (λ m. (m.shared, m.locals))
      (Dec.and (cell? r.shared g) (all? (λ t. cell? (get_or r.locals t 0) (get_or ls t 0)) T.n))

  -- what row 0 and the other rows say
  pub from_failed : Erroneous T g ls 0 → (t : ℕ) × (t < T.n) × (T.failed ≡ suc (get_or ls t 0))
  from_failed (failed t h e) = (t, h, e)

  pub from_matched : {i : ℕ} → Erroneous T g ls (suc i) → (r : Error) × (get_elem? T.errors i ≡ some r) × Matches T r g ls
  from_matched (matched i r e m) = (r, e, m)

  row_of? : (i : ℕ) (o : Option Error) → get_elem? T.errors i ≡ o → Dec (Erroneous T g ls (suc i))
  unfolding matches? ℕ_discrete
  row_of? i none e = no (λ x. let (r, e', m) = from_matched x in let z : ◌≡◌ {A = ℕ} 0 1 = cc in omega arith)
  row_of? i (some r) e =
      map_dec (matched i r e)
      (λ x. let (r', e', m) = from_matched x in let p : r' ≡ r = cc in subst (λ (x : Error). Matches T x g ls) p m) (matches? r)

  erroneous? : (row : ℕ) → Dec (Erroneous T g ls row)
  unfolding any? row_of? ℕ_discrete
  erroneous? zero = map_dec (λ (t, h, e). failed t h e) from_failed (any? (λ t. ℕ_discrete T.failed (suc (get_or ls t 0))) T.n)
  erroneous? (suc i) = row_of? i (get_elem? T.errors i) refl

row_lt : (T : Table) {g row : ℕ} {ls : List ℕ} → Erroneous T g ls row → row < suc (length T.errors)
row_lt T (failed t h e) = omega arith
row_lt T (matched i r e m) = omega (arith, some_lt T.errors i e)

-- ---- the stores that facts reach

module _ (fs : List Fact) where
  abbrev In : Fact → Type 0
  In f = Memᴰ f fs

  -- the local store in which a fact says that thread t is at g
  stands_in : ℕ → ℕ → Fact → List ℕ
  stands_in t g (G _ _ _) = []
  stands_in t g (P e _ _ h l) = only (Dec.and (ℕ_discrete e t) (ℕ_discrete h g)) (l ∷ [])
  stands_in t g (Q _ _ _ _ _ _) = []

  reaches_from : (t g : ℕ) (p : Fact) → In p → (l : ℕ) → Memᴰ l (stands_in t g p) → Reaches In t g l
  unfolding stands_in
  reaches_from t g (G _ _ _) i l m = elim m [ ]
  reaches_from t g (P e g₁ l₁ h l') i l m =
      let ((a, b), n) = from_only (Dec.and (ℕ_discrete e t) (ℕ_discrete h g)) m in
      from_one (Reaches In t g) (record { g₁ = g₁; l₁ = l₁; fact = rw (a, b) at i }) n
  reaches_from t g (Q _ _ _ _ _ _) i l m = elim m [ ]

  reaches_listed : (t g : ℕ) → Enumerates (Reaches In t g) (flat_map (stands_in t g) fs)
  unfolding stands_in
  reaches_listed t g l = (
    λ r. to_flat_map (stands_in t g) r.fact (to_only (Dec.and (ℕ_discrete t t) (ℕ_discrete g g)) (refl, refl) mem_first),
    λ m. let (p, i, n) = from_flat_map (stands_in t g) fs m in reaches_from t g p i l n,
  )

  -- the local stores of n threads from t on, each reached at g
  choices : ℕ → ℕ → ℕ → List (List ℕ)
  choices g t zero = [] ∷ []
  choices g t (suc n) = flat_map (λ l. map (λ ls. l ∷ ls) (choices g (suc t) n)) (flat_map (stands_in t g) fs)

  record Chosen (g t n : ℕ) (ls : List ℕ) : Type 0 where
    count : length ls ≡ n
    reached : (i : ℕ) → i < n → Reaches In (t + i) g (get_or ls i 0)

  chosen_cons : {g t n l : ℕ} {ls : List ℕ} → Reaches In t g l → Chosen g (suc t) n ls → Chosen g t (suc n) (l ∷ ls)
  chosen_cons {g} {t} {n} {l} {ls} r c = record { count = ap suc c.count; reached = go }
    where
      go : (i : ℕ) → i < suc n → Reaches In (t + i) g (get_or (l ∷ ls) i 0)
      go zero h = rw add-zero r
      go (suc i) h = rw (add-suc, ← suc-add) (c.reached i (omega arith))

  chosen_tail : {g t n l : ℕ} {ls : List ℕ} → Chosen g t (suc n) (l ∷ ls) → Chosen g (suc t) n ls
  chosen_tail c =
      record { count = omega (arith, c.count); reached = λ i h. rw (suc-add, ← add-suc) (c.reached (suc i) (omega arith)) }

  choices_sound : (g t n : ℕ) (ls : List ℕ) → Memᴰ ls (choices g t n) → Chosen g t n ls
  unfolding choices
  choices_sound g t zero ls m = from_one (Chosen g t 0) (record { count = refl; reached = λ i h. absurd (omega arith) }) m
  choices_sound g t (suc n) ls m =
      let (l, i, k) = from_flat_map (λ l. map (λ ls. l ∷ ls) (choices g (suc t) n)) (flat_map (stands_in t g) fs) m in
      let (rest, j, e) = Memᴰ.of_map (λ ls. l ∷ ls) (choices g (suc t) n) k in
      subst (Chosen g t (suc n)) e (chosen_cons ((reaches_listed t g l).1 i) (choices_sound g (suc t) n rest j))

  choices_complete : (g t n : ℕ) (ls : List ℕ) → Chosen g t n ls → Memᴰ ls (choices g t n)
  unfolding choices
  choices_complete g t zero [] c = mem_first
  choices_complete g t zero (l ∷ ls) c = absurd (omega (arith, c.count))
  choices_complete g t (suc n) [] c = absurd (omega (arith, c.count))
  choices_complete g t (suc n) (l ∷ ls) c =
      to_flat_map (λ l. map (λ ls. l ∷ ls) (choices g (suc t) n)) ((reaches_listed t g l).0 (rw add-zero at (c.reached 0 (omega arith))))
      (Memᴰ.map (λ ls. l ∷ ls) (choices_complete g (suc t) n ls (chosen_tail c)))

-- ---- the witnesses

module _ (T : Table) (fs : List Fact) where
  -- the shared store at which a fact says that thread 0 is
  shared_of : Fact → List ℕ
  shared_of (G _ _ _) = []
  shared_of (P t _ _ g _) = only (ℕ_discrete t 0) (g ∷ [])
  shared_of (Q _ _ _ _ _ _) = []

  -- the rows by which g, ls are erroneous, as witnesses
  by_row : ℕ → List ℕ → ℕ → List Witness
  by_row g ls row = only (erroneous? T g ls row) (record { row = row; shared = g; locals = ls } ∷ [])

  by_choice : ℕ → List ℕ → List Witness
  by_choice g ls = flat_map (by_row g ls) (up_to (suc (length T.errors)))

  by_shared : ℕ → List Witness
  by_shared g = flat_map (by_choice g) (choices fs g 0 T.n)

  unfoldable pub witnesses : List Witness
  unfolding flat_map only Dec.and ℕ_discrete up_to erroneous? stands_in choices shared_of by_row by_choice by_shared
  witnesses = flat_map by_shared (flat_map shared_of fs)

  witnesses_sound : (w : Witness) → Memᴰ w witnesses → Allows T (In fs) w
  unfolding witnesses
  witnesses_sound w m =
      let (g, i, m₁) = from_flat_map by_shared (flat_map shared_of fs) m in
      let (ls, j, m₂) = from_flat_map (by_choice g) (choices fs g 0 T.n) m₁ in
      let (row, k, m₃) = from_flat_map (by_row g ls) (up_to (suc (length T.errors))) m₂ in
      let (e, n) = from_only (erroneous? T g ls row) m₃ in
      let c = choices_sound fs g 0 T.n ls j in
      from_one (Allows T (In fs)) (record { count = c.count; erroneous = e; reached = λ t h. rw zero-add at (c.reached t h) }) n

  shared_in : {g₁ l₁ g l : ℕ} → In fs (P 0 g₁ l₁ g l) → Memᴰ g (flat_map shared_of fs)
  unfolding shared_of
  shared_in i = to_flat_map shared_of i (to_only (ℕ_discrete 0 0) refl mem_first)

  witnesses_complete : 0 < T.n → (w : Witness) → Allows T (In fs) w → Memᴰ w witnesses
  unfolding witnesses
  witnesses_complete hn w a =
      let c : Chosen fs w.shared 0 T.n w.locals = record { count = a.count; reached = λ t h. rw zero-add (a.reached t h) } in
      to_flat_map by_shared (shared_in (a.reached 0 hn).fact)
      (to_flat_map (by_choice w.shared) (choices_complete fs w.shared 0 T.n w.locals c)
      (to_flat_map (by_row w.shared w.locals) (lt_up_to _ (row_lt T a.erroneous))
      (to_only (erroneous? T w.shared w.locals w.row) a.erroneous mem_first)))

  pub allows_listed : 0 < T.n → Enumerates (Allows T (λ f. Memᴰ f fs)) witnesses
  allows_listed hn w = (witnesses_complete hn w, witnesses_sound w)

-- ---- the order of witnesses

lex? : (xs ys : List ℕ) → Dec (xs ≼ ys)
unfolding dec_lt ℕ_discrete
lex? [] [] = yes end
lex? [] (y ∷ ys) = no (λ h. elim h [ ])
lex? (x ∷ xs) [] = no (λ h. elim h [ ])
lex? (x ∷ xs) (y ∷ ys) = go (dec_lt x y) (ℕ_discrete x y) (lex? xs ys)
  where
    go : Dec (x < y) → Dec (x ≡ y) → Dec (xs ≼ ys) → Dec ((x ∷ xs) ≼ (y ∷ ys))
    go (yes h) _ _ = yes (less h)
    go (no n) (yes e) (yes h) = yes (more e h)
    go (no n) (yes e) (no n') = no (λ h. elim h [ less i ↦ n i | more e i ↦ n' i ])
    go (no n) (no n') _ = no (λ h. elim h [ less i ↦ n i | more e i ↦ n' e ])

-- two witnesses are one if each is no larger than the other
witness? : Discrete Witness
unfolding lex? Dec.and
witness? w v =
    map_dec (λ (a, b). witness_by_numbers w v (≼-antisym a b))
    (λ e. (subst (λ (x : Witness). numbers w ≼ numbers x) e (≼_refl _), subst (λ (x : Witness). numbers x ≼ numbers w) e (≼_refl _)))
    (Dec.and (lex? (numbers w) (numbers v)) (lex? (numbers v) (numbers w)))

-- ---- the decisions

module _ (T : Table) (hn : 0 < T.n) (fs : List Fact) where
  unfoldable pub safe? : Dec (Safe T (λ f. Memᴰ f fs))
  unfolding each? witnesses
  safe? =
      map_dec (λ n w a. n w ((allows_listed T fs hn w).0 a)) (λ s w m. s w ((allows_listed T fs hn w).1 m))
      (each? (λ w. no (λ x. x)) (witnesses T fs))

  unfoldable pub allows_row? : (row : ℕ) → Dec (AllowsRow T (λ f. Memᴰ f fs) row)
  unfolding some? witnesses
  allows_row? row =
      map_dec (λ (w, m, e). record { witness = w; by = e; allows = (allows_listed T fs hn w).1 m })
      (λ a. (a.witness, (allows_listed T fs hn a.witness).0 a.allows, a.by))
      (some? (λ w. ℕ_discrete w.row row) (witnesses T fs))

  smallest? : (w : Witness) → Dec (SmallestWitness T (λ f. Memᴰ f fs) w)
  unfolding each? member? witness? witnesses
  smallest? w =
      map_dec (λ (m, l). record { allowed = (allows_listed T fs hn w).1 m; least = λ v a. l v ((allows_listed T fs hn v).0 a) })
      (λ s. ((allows_listed T fs hn w).0 s.allowed, λ v m. s.least v ((allows_listed T fs hn v).1 m)))
      (Dec.and (member? witness? w (witnesses T fs)) (each? (λ v. lex? (numbers w) (numbers v)) (witnesses T fs)))

  unfoldable pub verdict? : (v : Option Witness) → Dec (Verdict T (λ f. Memᴰ f fs) v)
  unfolding safe? smallest?
  verdict? none = map_dec safe (λ v. elim v [ safe s ↦ s ]) safe?
  verdict? (some w) = map_dec possible (λ v. elim v [ possible s ↦ s ]) (smallest? w)
