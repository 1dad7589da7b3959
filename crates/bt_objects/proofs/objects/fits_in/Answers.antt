use Rattle.bt_objects.proofs.BoxLemmas.{fits_seen, fits_nothing}
use Rattle.bt_objects.proofs.objects.fits_in.Goals as goal

pub returns-in-Some : goal.returns-in-Some
returns-in-Some g c = fits_seen c.args.boxes.now c.args.id c.in-Some.placed.now c.args.back.now c.fits.result c.in-Some.ensures.value c.fits.ensures

pub returns-in-None : goal.returns-in-None
returns-in-None g c = fits_nothing c.args.boxes.now c.args.id c.args.back.now c.in-None.ensures.value
