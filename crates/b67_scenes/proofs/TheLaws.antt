-- What the laws of other crates say of every fragment of code, of what a part has still to do, and of what instances make, in one record.
use Rattle.b67_scenes.proofs.Prelude.{RestsKeepToTheirText, AllIsMadeInOrder, FragmentsArePerformed}

pub record TheLaws : Type 0 where
  pub fragments : FragmentsArePerformed
  pub keeps : RestsKeepToTheirText
  pub order : AllIsMadeInOrder

abbrev pub the_laws : FragmentsArePerformed → RestsKeepToTheirText → AllIsMadeInOrder → TheLaws
the_laws fragments keeps order = record { fragments = fragments; keeps = keeps; order = order }
