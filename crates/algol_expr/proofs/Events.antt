-- Lists of events.
use Rattle.std.proofs.Common.{◌≡◌, ◌≤◌, ℕ, List, [], ◌∷◌, ◌++◌, length, refl, sym, subst, ap, ◌∙◌, true, false, arith}
use Rattle.algol_tree.specs.Ended.{EndsOnce}
use Rattle.algol_tree.specs.Tokens.{is_symbol, is_word}
use Rattle.algol_tree.specs.Operators.{primary}
use Rattle.algol_tree.specs.declared.token.Reserved.TheVariants as reserved
use Rattle.algol_tree.specs.Due.{Value, event_named, event_names, Due, make, symbol, part, opening, event, events_more, plain, takes, skips, either}
use Rattle.algol_tree.specs.DueExpr.{event_added, waited}
use Rattle.algol_tree.specs.Reading.{read}
use Rattle.algol_tree.specs.Found.{TokenPasses, ReaderFinds, Fails, Lists}
use Rattle.algol_tree.specs.declared.token.Token.{Token}
use Rattle.algol_tree.specs.declared.token.TokenKind.TheVariants as kinds
use Rattle.algol_tree.specs.declared.token.Symbol.TheVariants as symbols
use Rattle.algol_tree.specs.declared.tree.EventName.{EventName}
use Rattle.algol_tree.specs.declared.refusal.Refusal.{Refusal}
use Rattle.algol_expr.specs.Events.{events_in}
use Rattle.algol_expr.proofs.Turns.{symbol_from}
use Rattle.algol_expr.proofs.Starts.{waited_starts}
use Rattle.algol_expr.proofs.Chain.{Reaches, via, past, making, turning, failing, takes_first, skips_first, from_tokens, behind_first}

-- Reading the events from `tokens` is reading them from `rest` with those found.
pub record EventsGoOn (tokens : List Token) (events : List EventName) (rest : List Token) : Type 0 where
  pub run : Reaches events_in (event_names [] ∷ []) tokens events_in (event_names events ∷ []) rest
  pub ended : EndsOnce rest
  pub no_longer : length rest ≤ length tokens

-- an event and what is due after it
event_added_at : (tokens rest after : List Token) (found new : List EventName) (e : EventName) → new ≡ found ++ e ∷ [] →
    EventsGoOn tokens found rest → ReaderFinds event rest (event_named e) after →
    Reaches events_in (event_names [] ∷ []) tokens (events_more ∷ symbol symbols.CloseRound ∷ []) (event_names new ∷ []) after
event_added_at tokens rest after found new e is g f = making (via g.run f) (λ vs. ap (λ es. event_names es ∷ vs) (sym is))

pub events_begin : (tokens : List Token) (events : List EventName) → events ≡ [] → EndsOnce tokens → EventsGoOn tokens events tokens
events_begin tokens events e ended = record {
  run = record { run = λ due vs. ap (λ x. read 0 tokens (events_in ++ due) (event_names x ∷ vs)) (sym e) };
  ended = ended;
  no_longer = omega arith;
}

pub events_go_on : (tokens rest after : List Token) (t : Token) (ts : List Token) (found new : List EventName) (e : EventName) → new ≡ found ++ e ∷ [] →
    EventsGoOn tokens found rest → ReaderFinds event rest (event_named e) after → after ≡ t ∷ ts → is_symbol symbols.Comma t.kind ≡ true → EventsGoOn tokens new ts
events_go_on tokens rest after t ts found new e more g f is comma =
    let b = behind_first t ts (subst EndsOnce is f.behind.ended) (λ q. let no : kinds.Symbol symbols.Comma ≡ kinds.End = sym (symbol_from t.kind symbols.Comma comma) ∙ q in cc) in
    record {
      run = turning (event_added_at tokens rest after found new e more g f)
          (from_tokens is (takes_first t ts events_more (event ∷ make event_added ∷ events_more ∷ [])
          (ap (λ b. either b (takes plain (event ∷ make event_added ∷ events_more ∷ [])) skips) comma)));
      ended = b.ended;
      no_longer = omega (arith, b.shorter, ap length is, f.behind.shorter, g.no_longer);
    }

events_over : (tokens rest after : List Token) (t : Token) (ts : List Token) (found new : List EventName) (e : EventName) → new ≡ found ++ e ∷ [] →
    EventsGoOn tokens found rest → ReaderFinds event rest (event_named e) after → after ≡ t ∷ ts → is_symbol symbols.Comma t.kind ≡ false →
    Reaches events_in (event_names [] ∷ []) tokens (symbol symbols.CloseRound ∷ []) (event_names new ∷ []) after
events_over tokens rest after t ts found new e more g f is comma =
    turning (event_added_at tokens rest after found new e more g f)
    (subst (λ x. Reaches (events_more ∷ []) [] x [] [] x) (sym is) (skips_first t ts events_more
    (ap (λ b. either b (takes plain (event ∷ make event_added ∷ events_more ∷ [])) skips) comma)))

pub events_done : (tokens rest after end : List Token) (t : Token) (ts : List Token) (found new : List EventName) (e : EventName) → new ≡ found ++ e ∷ [] →
    EventsGoOn tokens found rest → ReaderFinds event rest (event_named e) after → after ≡ t ∷ ts → is_symbol symbols.Comma t.kind ≡ false →
    TokenPasses (symbol symbols.CloseRound) after end → Lists events_in tokens (event_names []) (event_names new) end
events_done tokens rest after end t ts found new e more g f is comma p = record {
  run = λ due vs. (past (events_over tokens rest after t ts found new e more g f is comma) p).run due vs;
  behind = record { ended = p.behind.ended; shorter = omega (arith, p.behind.shorter, f.behind.shorter, g.no_longer) };
}

pub events_fail : (tokens rest : List Token) (found : List EventName) (left : ℕ) (e : Refusal) → EventsGoOn tokens found rest →
    Fails (event ∷ []) [] rest left e → Fails events_in (event_names [] ∷ []) tokens left e
events_fail tokens rest found left e g f = failing g.run f

pub events_fail_closing : (tokens rest after : List Token) (t : Token) (ts : List Token) (found new : List EventName) (e : EventName) (left : ℕ) (r : Refusal) →
    new ≡ found ++ e ∷ [] → EventsGoOn tokens found rest → ReaderFinds event rest (event_named e) after → after ≡ t ∷ ts →
    is_symbol symbols.Comma t.kind ≡ false → Fails (symbol symbols.CloseRound ∷ []) [] after left r → Fails events_in (event_names [] ∷ []) tokens left r
events_fail_closing tokens rest after t ts found new e left r more g f is comma p = failing (events_over tokens rest after t ts found new e more g f is comma) p

-- WAIT and the parenthesis after it, and then a list of events
pub wait_opens : (d : ℕ) (t : Token) (ts mid : List Token) → is_word reserved.Wait t.kind ≡ true → TokenPasses (opening symbols.OpenRound d) ts mid →
    Reaches (part primary d ∷ []) [] (t ∷ ts) (events_in ++ make (waited t.spot) ∷ []) (event_names [] ∷ []) mid
wait_opens d t ts mid w p = making (past (waited_starts d t ts w) p) (λ vs. refl)

-- a list of events within what is due
module _ {from : List Due} {us : List Value} {tokens mid : List Token} {ds : List Due} {ws : List Value} where
  pub events_through : {es : List EventName} {rest : List Token} → Reaches from us tokens (events_in ++ ds) (event_names [] ∷ ws) mid →
      Lists events_in mid (event_names []) (event_names es) rest → Reaches from us tokens ds (event_names es ∷ ws) rest
  events_through r p = record { run = λ due vs. r.run due vs ∙ p.run (ds ++ due) (ws ++ vs) }

  pub events_failing : {at_ : ℕ} {e : Refusal} → Reaches from us tokens (events_in ++ ds) (event_names [] ∷ ws) mid →
      Fails events_in (event_names [] ∷ []) mid at_ e → Fails from us tokens at_ e
  events_failing r p = record { run = λ spot code q due vs. r.run due vs ∙ p.run spot code q (ds ++ due) (ws ++ vs) }
