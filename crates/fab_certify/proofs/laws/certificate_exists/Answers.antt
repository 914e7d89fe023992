use Rattle.fab_certify.proofs.Exists.Certificates
use Rattle.fab_certify.proofs.laws.certificate_exists.Goals as goal

pub returns : goal.returns
returns c = Certificates.certificate_exists
