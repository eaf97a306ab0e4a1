use Rattle.terms.proofs.BankShapes.{bank_laws}
use Rattle.terms.proofs.laws.bank_laws.Goals as goal

pub returns : goal.returns
returns c = bank_laws
