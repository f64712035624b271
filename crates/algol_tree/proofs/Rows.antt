-- What a column of a table has in a row.
use Rattle.std.proofs.lemmas.List.{get_or-map}

pub ruleset column = get_or-map
