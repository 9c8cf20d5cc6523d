-- Tokens with a value behind them, a token at a time.
use Rattle.std.specs.Prelude.{List, [], ◌∷◌, ◌++◌}
use Rattle.json.specs.Token.{Token}
use Rattle.json.specs.Json.{Json, null, boolean, number, string, array, object, Items, no_items, item, Members, no_members, member}

abbrev mutual
  -- the tokens, and behind them those of the value
  pub appended : List Token → Json → List Token
  appended ts null = ts ++ Token.null ∷ []
  appended ts (boolean b) = ts ++ Token.boolean b ∷ []
  appended ts (number s) = ts ++ Token.number s ∷ []
  appended ts (string s) = ts ++ Token.string s ∷ []
  appended ts (array js) = items_appended (ts ++ Token.begin_array ∷ []) js
  appended ts (object ms) = members_appended (ts ++ Token.begin_object ∷ []) ms

  pub items_appended : List Token → Items → List Token
  items_appended ts no_items = ts ++ Token.end_array ∷ []
  items_appended ts (item j js) = items_appended (appended ts j) js

  pub members_appended : List Token → Members → List Token
  members_appended ts no_members = ts ++ Token.end_object ∷ []
  members_appended ts (member k j ms) = members_appended (appended (ts ++ Token.key k ∷ []) j) ms
