-- On a filled table the field is that of the residues, which is lawful.
use Rattle.std.proofs.Common.{refl}
use Rattle.fields.proofs.LawfulResidues.{filled_residues, filled_lawful}
use Rattle.fields.proofs.residues.Residues.on.Goals as goal

pub returns : goal.returns
returns c =
    record {
      modulus = refl;
      inverses = refl;
      meaning = filled_residues c.args.m c.args.table.now;
      lawful = filled_lawful c.args.m c.args.table.now;
    }
