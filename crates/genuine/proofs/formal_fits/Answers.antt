-- `genuine::formal_fits` meets its contract.
-- Assumes nothing.
use Rattle.genuine.proofs.TestingFormals.{fits_over, fits_misnamed, fits_unset, fits_by}
use Rattle.genuine.proofs.formal_fits.Goals as goal

pub returns-then-end-e : goal.returns-then-end-e
returns-then-end-e c = search fits_over

pub returns-then-not-is_fit_formal : goal.returns-then-not-is_fit_formal
returns-then-not-is_fit_formal c = search fits_misnamed

pub returns-then-not-default_fits : goal.returns-then-not-default_fits
returns-then-not-default_fits c = search fits_unset

pub returns : goal.returns
returns c = search fits_by
