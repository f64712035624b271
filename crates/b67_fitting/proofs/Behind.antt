-- After lists, bounds and headings stand tokens of the same text.
use Rattle.std.proofs.Common.{ℤ, List, Option}
use Rattle.std.specs.List.{AllByRecursion}
use Rattle.algol_tree.specs.declared.token.Token.{Token}
use Rattle.algol_tree.specs.declared.tree.Named.{Named}
use Rattle.algol_tree.specs.declared.tree.EventName.{EventName}
use Rattle.algol_tree.specs.declared.tree.Kind.{Kind}
use Rattle.algol_tree.specs.declared.tree.Heading.{Heading}
use Rattle.algol_tree.specs.declared.tree.PhraseText.{PhraseText}
use Rattle.algol_tree.specs.declared.tree.Spec.{Spec}
use Rattle.algol_tree.specs.Expressions as expressions
use Rattle.algol_tree.specs.Expressions.{IsEvent, IsEvents, declared, of_task}
use Rattle.algol_tree.specs.Headings as headings
use Rattle.algol_tree.specs.Headings.{IsTyped, IsNames, IsFile, IsFiles, IsLiteral, IsLows, IsSpec, IsSpecs, IsValues, IsHeading}
use Rattle.algol_tree.specs.Statements as grammar
use Rattle.algol_tree.specs.Statements.{IsTaskPart, IsTo, IsPhrases}

-- what holds of each token up to the end holds of those after
module _ (P : Token → Type 0) where
  abbrev pub All : List Token → Type 0
  All ts = AllByRecursion P ts

  pub behind_event : {from : List Token} {e : EventName} {rest : List Token} → IsEvent from e rest → All from → All rest
  behind_event (declared t n rest k) w = w.1
  behind_event (of_task t u v n rest k c s) w = w.1.1.1

  pub behind_events : {from : List Token} {es : List EventName} {rest : List Token} → IsEvents from es rest → All from → All rest
  behind_events (expressions.last e from rest x) w = behind_event x w
  behind_events (expressions.comma t e es from after rest x i y) w = behind_events y (behind_event x w).1

  pub behind_names : {from : List Token} {ns : List Named} {rest : List Token} → IsNames from ns rest → All from → All rest
  behind_names (headings.last t n rest k) w = w.1
  behind_names (headings.comma t u n ns from rest k i x) w = behind_names x w.1.1

  behind_file : {from : List Token} {n : Named} {rest : List Token} → IsFile from n rest → All from → All rest
  behind_file (headings.bare t n rest k) w = w.1
  behind_file (headings.printer t opening key equal value close n rest k a b c d e) w = w.1.1.1.1.1.1

  pub behind_files : {from : List Token} {ns : List Named} {rest : List Token} → IsFiles from ns rest → All from → All rest
  behind_files (headings.last n from rest x) w = behind_file x w
  behind_files (headings.comma u n ns from after rest x i y) w = behind_files y (behind_file x w).1

  pub behind_typed : {from : List Token} {kind : Option Kind} {rest : List Token} → IsTyped from kind rest → All from → All rest
  behind_typed (headings.untyped rest) w = w
  behind_typed (headings.typed t kind rest i) w = w.1

  behind_literal : {from : List Token} {low : ℤ} {rest : List Token} → IsLiteral from low rest → All from → All rest
  behind_literal (headings.positive t value rest i) w = w.1
  behind_literal (headings.negative t u value rest i j) w = w.1.1

  behind_lows : {from : List Token} {lows : List ℤ} {rest : List Token} → IsLows from lows rest → All from → All rest
  behind_lows (headings.one low from rest x) w = behind_literal x w
  behind_lows (headings.two u low other from after rest x i y) w = behind_literal y (behind_literal x w).1

  pub behind_spec : {from : List Token} {s : Spec} {rest : List Token} → IsSpec from s rest → All from → All rest
  behind_spec (headings.simple t u kind ns from rest i x j) w = (behind_names x w.1).1
  behind_spec (headings.events t u ns from rest i x j) w = (behind_names x w.1).1
  behind_spec (headings.arrays t u v w kind ns lows from names mid rest x i y j z k l) h = (behind_lows z (behind_names y (behind_typed x h).1).1).1.1

  behind_specs : {from : List Token} {ss : List Spec} {rest : List Token} → IsSpecs from ss rest → All from → All rest
  behind_specs (headings.last s from rest x) w = behind_spec x w
  behind_specs (headings.on s ss from mid rest x y) w = behind_specs y (behind_spec x w)

  pub behind_values : {from : List Token} {ns : List Named} {rest : List Token} → IsValues from ns rest → All from → All rest
  behind_values (headings.nothing rest) w = w
  behind_values (headings.values t u ns from rest i x j) w = (behind_names x w.1).1

  pub behind_heading : {from : List Token} {h : Heading} {rest : List Token} → IsHeading from h rest → All from → All rest
  behind_heading (headings.without t u v kind n from rest x i k j) w = (behind_typed x w).1.1.1
  behind_heading (headings.with_params t u v w x kind n params values ss from names mid after rest y i k j z l m vs sp) h =
      behind_specs sp (behind_values vs (behind_names z (behind_typed y h).1.1.1).1.1)

  pub behind_task : {from : List Token} {task : Option Named} {rest : List Token} → IsTaskPart from task rest → All from → All rest
  behind_task (grammar.nothing rest) w = w
  behind_task (grammar.task t u v n rest i k j) w = w.1.1.1

  pub behind_to : {from rest : List Token} → IsTo from rest → All from → All rest
  behind_to (grammar.nothing rest) w = w
  behind_to (grammar.to t rest i) w = w.1

  pub behind_phrases : {from : List Token} {ps : List PhraseText} {rest : List Token} → IsPhrases from ps rest → All from → All rest
  behind_phrases (grammar.last t p rest i) w = w.1
  behind_phrases (grammar.comma t u p ps from rest i j x) w = behind_phrases x w.1.1
