-- What the rules yield from facts in range is in range, since every row of a sound table is. So every derivable fact is in range.
use Rattle.files.specs.Table.{Table, Sound}
use Rattle.model.specs.Rules.{
  Fact,
  env_P,
  env_Q,
  step_P,
  step_G,
  push_Q,
  push_P,
  call,
  pop_P,
  Closed,
  ClosedWithStarts,
  Derives,
}
use Rattle.model.specs.Positions.{Fits}
use Rattle.model.proofs.Least.{least}

module _ {T : Table} (sound : Sound T) where
  fits_closed : Closed T (Fits T)
  fits_closed f (env_P (t, g₁, l₁, g₂, l₂) (e, _, g₃) ne) = (t, g₁, l₁, g₃, l₂)
  fits_closed f (env_Q (t, g₁, l₁, f', g₂, l₂) (e, _, g₃) ne) = (t, g₁, l₁, f', g₃, l₂)
  fits_closed f (step_P (t, g₁, l₁, g₂, l₂) r) = let s = sound.steps.fits _ r.row in (t, g₁, l₁, s.g', s.l')
  fits_closed f (step_G (t, g₁, l₁, g₂, l₂) r) = (t, g₂, (sound.steps.fits _ r.row).g')
  fits_closed f (push_Q (t, g₁, l₁, g₂, l₂) r) = let s = sound.pushes.fits _ r.row in (t, g₁, l₁, s.f, g₂, s.l')
  fits_closed f (push_P (t, g₁, l₁, g₂, l₂) r) = let s = sound.pushes.fits _ r.row in (t, g₂, s.l', g₂, s.l')
  fits_closed f (call (t, g₁, l₁, f', _, _) (_, _, _, g₃, l₃)) = (t, g₁, l₁, f', g₃, l₃)
  fits_closed f (pop_P (t, g₁, l₁, f', g₂, l₂) r) = (t, g₁, l₁, g₂, (sound.pops.fits _ r.row).l')

  -- the facts in range are a closed set with the start facts
  pub fits_closed_with_starts : ClosedWithStarts T (Fits T)
  fits_closed_with_starts =
      record { starts = λ t h. (h, sound.g₀, sound.locals t h, sound.g₀, sound.locals t h); closed = fits_closed }

  pub derives_fits : (f : Fact) → Derives T f → Fits T f
  derives_fits = least fits_closed_with_starts
