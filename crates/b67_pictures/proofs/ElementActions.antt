-- What is done with the elements of arrays, and with their names as actuals, is done in each scene whose head asks for it.
use Rattle.std.proofs.Common.{ℕ, List}
use Rattle.b67_pictures.proofs.Prelude.{PProgram, scopes_of, Named, reads_element, indexes, passes, stores, element_of, Value, Reference, Code, AreNested, Texts, TheLaws}
use Rattle.b67_pictures.proofs.Dispatching.{IsDone}
use Rattle.b67_pictures.proofs.ElementReading.{element_reading}
use Rattle.b67_pictures.proofs.ElementStoring.{element_storing}
use Rattle.b67_pictures.proofs.Indexing.{indexing}
use Rattle.b67_pictures.proofs.Passing.{passing}

module _ (tree : PProgram) (code : Code) (texts : Texts) (laws : TheLaws) where
  pub element_read_done : AreNested (scopes_of tree) → (n : Named) (ks : List ℕ) (v : Value) → IsDone tree code texts (reads_element n ks v)
  element_read_done nested n ks v actor h =
      element_reading tree code texts nested laws actor n ks v h

  pub index_done : AreNested (scopes_of tree) → (n : Named) (ks : List ℕ) (v : Value) → IsDone tree code texts (indexes n ks v)
  index_done nested n ks v actor h =
      indexing tree code texts nested laws actor n ks v h.asks h.action h.answered

  pub element_store_done : (r : Reference) (ks : List ℕ) (v : Value) → IsDone tree code texts (stores (element_of r ks) v)
  element_store_done r ks v actor h =
      element_storing tree code texts laws actor r ks v h

  pub passing_done : AreNested (scopes_of tree) → (n : Named) → IsDone tree code texts (passes n)
  passing_done nested n actor h =
      passing tree code texts nested laws actor n h
