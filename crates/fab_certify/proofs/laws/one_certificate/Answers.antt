use Rattle.fab_certify.proofs.OneCertificate
use Rattle.fab_certify.proofs.laws.one_certificate.Goals as goal

pub returns : goal.returns
returns c = OneCertificate.one_certificate
