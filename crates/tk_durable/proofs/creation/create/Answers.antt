use Rattle.std.proofs.Common.{[], arith, refl}
use Rattle.std.proofs.lemmas.List.Elements.{All-nil}
use Rattle.tk_payload.specs.Fits.{IsEntry}
use Rattle.tk_durable.specs.Journal.{HasLength}
use Rattle.tk_durable.proofs.creation.create.Goals as goal

pub at-requires : goal.at-requires
at-requires g c same tells =
    let told = c.begin.ensures.told.1 tells in (
      [],
      record {
        journal = record { gate = 0; behind = []; is = c.in-Ok.ensures.content told; closed = λ e. omega (arith, e); each = All-nil IsEntry; lengths = All-nil HasLength };
        at = refl;
        only = c.in-Ok.ensures.durable told;
      },
    )
