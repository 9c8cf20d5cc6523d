-- Members that are read one after another: the exits where one isn't read.
use Rattle.std.proofs.Common.{List, Option, Err, ap}
use Rattle.json.specs.Token.{Token}
use Rattle.tk_payload.specs.declared.refusal.Refusal.{Refusal}
use Rattle.tk_payload.specs.declared.refusal.Refusal.TheVariants.{Memory, Unlike}
use Rattle.tk_payload.specs.Steps.{◌>>=◌, Ends, Gives}

-- at the exit where a member isn't read
pub refused_there : {X Y : Type 0} (e : Refusal) (rest : List Token) (read : Option (Y × List Token)) (more : Y × List Token → Option (X × List Token))
    → Gives {X = Y} (Err e) rest read → Gives {X = X} (Err e) rest (read >>= more)
refused_there Memory rest read more given = tt
refused_there {X} {Y} Unlike rest read more given = ap (λ (o : Option (Y × List Token)). o >>= more) given

-- at the exit where the object doesn't end
pub refused_end : {X : Type 0} (e : Refusal) (rest : List Token) (read : Option (List Token)) (more : List Token → Option (X × List Token))
    → Ends (Err e) rest read → Gives {X = X} (Err e) rest (read >>= more)
refused_end Memory rest read more given = absurd given
refused_end {X} Unlike rest read more given = ap (λ (o : Option (List Token)). o >>= more) given
