-- Two results that a contract allows are equal.
use Rattle.numbers.proofs.Unique.{same, Fixes}
use Rattle.training.proofs.file.Reads as file
use Rattle.training.proofs.file.Kinds as file-kinds
use Rattle.training.proofs.mutex_file.Reads as mutex-file
use Rattle.training.proofs.mutex_file.Kinds as mutex-file-kinds

pub file_fixes : Fixes file-kinds.ps file-kinds.r file.Post
file_fixes κs a x x' s s' = same

pub mutex_file_fixes : Fixes mutex-file-kinds.ps mutex-file-kinds.r mutex-file.Post
mutex_file_fixes κs a x x' s s' = same
