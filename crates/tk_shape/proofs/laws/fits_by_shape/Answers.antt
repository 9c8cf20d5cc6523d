use Rattle.tk_shape.proofs.Fitting.{step_same, fits_same}
use Rattle.tk_shape.proofs.laws.fits_by_shape.Goals as goal

pub returns : goal.returns
returns c = record { step = step_same; body = fits_same }
