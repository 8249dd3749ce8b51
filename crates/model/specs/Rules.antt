-- The rules (01, "The rules"; 004, section 3.1): facts, one use of a rule, and the least relations closed under the rules. Each rule is
-- written once, over any set S of facts: the relations, a claim, or a list. Stores and places are named as in 004's rules.
use Rattle.std.specs.Prelude.{◌≢◌, ℕ, ◌<◌}
use mathlib.Core.List.{List, Memᴰ}
use Rattle.files.specs.Table.{Table}
use Rattle.model.specs.Taken.{begins, Steps, Pushes, Pops}

-- G(t,g,g'): a step of t can change shared store g to g'. P(t,g,l,g',l'): from g, l thread t can come to g', l' with the same stack.
-- Q(t,g,l,f,g',l'): the same with f pushed.
pub data Fact : Type 0 where
  G : (t g g' : ℕ) → Fact
  P : (t g l g' l' : ℕ) → Fact
  Q : (t g l f g' l' : ℕ) → Fact
  deriving Discrete as Fact-discrete

-- one use of rules 2 to 7 yields a fact from facts in S
pub data Yields (T : Table) (S : Fact → Type 0) : Fact → Type 0 where
  -- rules 2 and 3: a guarantee of another thread e
  env_P : {t e g₁ l₁ g₂ l₂ g₃ : ℕ} → S (P t g₁ l₁ g₂ l₂) → S (G e g₂ g₃) → e ≢ t → Yields T S (P t g₁ l₁ g₃ l₂)
  env_Q : {t e g₁ l₁ f g₂ l₂ g₃ : ℕ} → S (Q t g₁ l₁ f g₂ l₂) → S (G e g₂ g₃) → e ≢ t → Yields T S (Q t g₁ l₁ f g₃ l₂)
  -- rule 4: a step row gives two facts, the second also when g₃ = g₂
  step_P : {t g₁ l₁ g₂ l₂ g₃ l₃ : ℕ} → S (P t g₁ l₁ g₂ l₂) → Steps T t g₂ l₂ g₃ l₃ → Yields T S (P t g₁ l₁ g₃ l₃)
  step_G : {t g₁ l₁ g₂ l₂ g₃ l₃ : ℕ} → S (P t g₁ l₁ g₂ l₂) → Steps T t g₂ l₂ g₃ l₃ → Yields T S (G t g₂ g₃)
  -- rule 5: a push row gives two facts, the second for the callee's own start
  push_Q : {t g₁ l₁ g₂ l₂ l₃ f : ℕ} → S (P t g₁ l₁ g₂ l₂) → Pushes T t g₂ l₂ l₃ f → Yields T S (Q t g₁ l₁ f g₂ l₃)
  push_P : {t g₁ l₁ g₂ l₂ l₃ f : ℕ} → S (P t g₁ l₁ g₂ l₂) → Pushes T t g₂ l₂ l₃ f → Yields T S (P t g₂ l₃ g₂ l₃)
  -- rule 6: what the callee does
  call : {t g₁ l₁ f g₂ l₂ g₃ l₃ : ℕ} → S (Q t g₁ l₁ f g₂ l₂) → S (P t g₂ l₂ g₃ l₃) → Yields T S (Q t g₁ l₁ f g₃ l₃)
  -- rule 7: a pop row
  pop_P : {t g₁ l₁ f g₂ l₂ l₃ : ℕ} → S (Q t g₁ l₁ f g₂ l₂) → Pops T t g₂ l₂ f l₃ → Yields T S (P t g₁ l₁ g₂ l₃)

-- the fact that rule 1 gives for thread t
abbrev pub start_fact : Table → ℕ → Fact
start_fact T t = P t T.g₀ (begins T t) T.g₀ (begins T t)

-- S holds the start facts
abbrev pub Starts : Table → (Fact → Type 0) → Type 0
Starts T S = (t : ℕ) → t < T.n → S (start_fact T t)

-- S is closed under rules 2 to 7
abbrev pub Closed : Table → (Fact → Type 0) → Type 0
Closed T S = (f : Fact) → Yields T S f → S f

-- both: what a claim must be, and what the relations are the least of
pub record ClosedWithStarts (T : Table) (S : Fact → Type 0) : Type 0 where
  pub starts : Starts T S
  pub closed : Closed T S

-- The least relations: a fact is derivable if it is a start fact, or if one use of a rule yields it from derivable facts. The facts used
-- stand in a list, since a definition may not give itself to Yields as the set.
pub data Derives (T : Table) : Fact → Type 0 where
  start : (t : ℕ) → t < T.n → Derives T (start_fact T t)
  by : {f : Fact} (used : List Fact) → Yields T (λ q. Memᴰ q used) f → ((q : Fact) → Memᴰ q used → Derives T q) → Derives T f
