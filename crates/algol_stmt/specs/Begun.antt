-- What is begun with its parts in boxes, seen without them.
use Rattle.algol_part.specs.declared.opening.Opening.{Opening}
use Rattle.algol_part.specs.declared.opening.Opening.TheVariants as openings
use Rattle.algol_part.specs.declared.opening.Beginning.{Beginning}
use Rattle.algol_part.specs.declared.opening.Beginning.TheVariants as beginnings
use Rattle.algol_stmt.specs.declared.begun.Opened.{Opened}
use Rattle.algol_stmt.specs.declared.begun.Opened.TheVariants as boxed_openings
use Rattle.algol_stmt.specs.declared.begun.Begun.{Begun}
use Rattle.algol_stmt.specs.declared.begun.Begun.TheVariants as boxed_beginnings

abbrev pub opening_of : Opened → Opening
opening_of (boxed_openings.Led lead) = openings.Led lead.value
opening_of (boxed_openings.Begin spot) = openings.Begin spot
opening_of (boxed_openings.If condition) = openings.If condition.value
opening_of boxed_openings.Do = openings.Do
opening_of (boxed_openings.Case choice) = openings.Case choice.value

abbrev pub beginning_of : Begun → Beginning
beginning_of (boxed_beginnings.Whole statement) = beginnings.Whole statement.value
beginning_of (boxed_beginnings.Open opened depth) = beginnings.Open (opening_of opened) depth
