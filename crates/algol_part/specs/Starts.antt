-- What a token begins.
use Rattle.std.specs.Prelude.{Bool, true, false, ◌||◌}
use Rattle.algol_tree.specs.declared.token.TokenKind.{TokenKind}
use Rattle.algol_tree.specs.declared.token.TokenKind.TheVariants as kinds
use Rattle.algol_tree.specs.declared.token.Reserved.TheVariants as reserved
use Rattle.algol_tree.specs.declared.token.Symbol.TheVariants as symbols
use Rattle.b67_deeds.specs.declared.EventAct.TheVariants as acts
use Rattle.algol_tree.specs.Tokens.{is_symbol}
use Rattle.algol_part.specs.declared.start.Start.{Start}
use Rattle.algol_part.specs.declared.start.Start.TheVariants as starts
use Rattle.algol_part.specs.declared.start.Opener.TheVariants as openers
use Rattle.algol_part.specs.declared.start.Verb.TheVariants as verbs

-- the statement that a token begins as a word
abbrev pub start_of : TokenKind → Start
start_of (kinds.Word reserved.Begin) = starts.Opens openers.Begin
start_of (kinds.Word reserved.If) = starts.Opens openers.If
start_of (kinds.Word reserved.While) = starts.Opens openers.While
start_of (kinds.Word reserved.Do) = starts.Opens openers.Do
start_of (kinds.Word reserved.For) = starts.Opens openers.For
start_of (kinds.Word reserved.Thru) = starts.Opens openers.Thru
start_of (kinds.Word reserved.Case) = starts.Opens openers.Case
start_of (kinds.Word reserved.Go) = starts.Acts verbs.Go
start_of (kinds.Word reserved.Process) = starts.Acts verbs.Process
start_of (kinds.Word reserved.Write) = starts.Acts verbs.Write
start_of (kinds.Word reserved.Cause) = starts.Acts (verbs.Act acts.Cause)
start_of (kinds.Word reserved.CauseAndReset) = starts.Acts (verbs.Act acts.CauseAndReset)
start_of (kinds.Word reserved.Reset) = starts.Acts (verbs.Act acts.Reset)
start_of (kinds.Word reserved.Wait) = starts.Acts (verbs.Act acts.Wait)
start_of (kinds.Word reserved.Procure) = starts.Acts (verbs.Act acts.Procure)
start_of (kinds.Word reserved.Liberate) = starts.Acts (verbs.Act acts.Liberate)
start_of k = starts.Nothing

abbrev pub token_is_name : TokenKind → Bool
token_is_name (kinds.Name name) = true
token_is_name k = false

abbrev pub starts_some : Start → Bool
starts_some starts.Nothing = false
starts_some s = true

-- the body of a procedure may begin so: with a statement that is not empty, or with the semicolon after an empty one
abbrev pub begins_body : TokenKind → Bool
begins_body k = is_symbol symbols.Semicolon k || (token_is_name k || starts_some (start_of k))
