use Rattle.std.proofs.Common.{◌≡◌, ◌<◌, ◌^◌, drop}
use Rattle.std.specs.List.{list_all}
use Rattle.algol_tree.specs.Spelling.{is_digit, value_after}
use Rattle.algol_sites.specs.Lining.{capped}
use Rattle.algol_sites.proofs.line.number_of.Given as goal

abbrev pub invariant-digits : goal.invariant-digits
invariant-digits l =
    (list_all is_digit (drop l.byte-index l.digits) ≡ list_all is_digit l.fn.digits) ×
    (capped (value_after l.number (drop l.byte-index l.digits)) ≡ capped (value_after 0 l.fn.digits)) × (l.number < 2 ^ 64)
