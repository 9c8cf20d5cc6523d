-- Where a value stands.
use Rattle.std.specs.Prelude.{[]}
use Rattle.tk_types.specs.Place.{Place, ◌▸◌, ◌#◌}
use Rattle.tk_types.specs.declared.location.Way.{Way}
use Rattle.tk_types.specs.declared.location.Way.TheVariants.{Root, Known, Member, Element}

-- the place to which a last step leads
abbrev pub place_of : Way → Place
place_of Root = []
place_of (Known place) = place.now
place_of (Member above key) = above.now ▸ key.now
place_of (Element above index) = above.now # index
