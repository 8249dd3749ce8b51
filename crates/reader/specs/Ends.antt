-- Where a part of a file ends, and the end of the whole (document 01, "What comes back": 6, bytes after the end).
use Rattle.std.specs.Prelude.{ℕ, List, Result, Ok, Err, length, ltb}
use Rattle.numbers.specs.Reading.{Out, got, bad, pick}
use Rattle.numbers.specs.declared.refusals.Refusal.{Refusal}
use Rattle.numbers.specs.declared.refusals.Refusal.TheVariants.{After}

-- bytes after the end are refused, at the first of them
abbrev pub at_end : {A : Type 0} → A → List ℕ → ℕ → Out A
at_end a s p = pick (ltb p (length s)) (bad (After p)) (got a p)

-- ---- what the code answers

-- the place past a part, or why it was refused
abbrev pub end_of : {A : Type 0} → Out A → Result ℕ Refusal
end_of (got a next) = Ok next
end_of (bad r) = Err r

-- what is read after a part, or the part's refusal
abbrev pub after : {A : Type 0} → Result ℕ Refusal → (ℕ → Out A) → Out A
after (Ok next) f = f next
after (Err r) f = bad r

-- the end of the file after a part of it
abbrev pub end_after : Result ℕ Refusal → List ℕ → Result ℕ Refusal
end_after e s = end_of (after e (at_end (tt {0}) s))
