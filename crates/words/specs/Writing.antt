-- What the functions that write a part of a text do, from before to after it. Only private ones cite it.
use Rattle.std.specs.Prelude.{◌≡◌, List, ℕ, ◌+◌, length}
use Rattle.std.proofs.lemmas.List.Edits.{sets}
use Rattle.words.specs.declared.writer.Writer.{Writer}

-- the text is put past what was written, in the same buffer, and no other byte is changed
pub record Wrote (text : List ℕ) (old new : Writer) : Type 0 where
  pub name : new.out.ghost_name ≡ old.out.ghost_name
  pub long : length new.out.now ≡ length old.out.now
  pub bytes : new.out.now ≡ sets old.out.now old.at text
  pub next : new.at ≡ old.at + length text
