-- The files of the two tables read as the tables, by evaluation.
use mathlib.Core.Path.{◌≡◌, refl}
use Rattle.numbers.specs.Reading.{got}
use Rattle.files.specs.File.{table_at}
use Rattle.files.specs.Layout.{numbers_of}
use Rattle.files.proofs.Computed.{reads}
use Rattle.training.specs.Training.{training, mutex}

pub training_reads : table_at (numbers_of training) ≡ got training 576
unfolding reads numbers_of training
training_reads = refl

pub mutex_reads : table_at (numbers_of mutex) ≡ got mutex 173
unfolding reads numbers_of mutex
mutex_reads = refl
