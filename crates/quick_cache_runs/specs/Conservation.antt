-- Conservation: over every run of calls, no pair that a cache was handed is lost, made, or told of
-- twice, and a key has the value that was last written for it, or none.
use Rattle.std.specs.Prelude.{◌≡◌, ℕ, ◌+◌, length, Bool, true, List, [], ◌∷◌, ◌++◌, Option, Some, Result, Vec}
use Rattle.std.specs.List.{AllByRecursion}
use Rattle.quick_cache_model.specs.CacheState.{CacheState, IsValid}
use Rattle.quick_cache_model.specs.Hooks.{Rules, Hooks, HookCall, RunsHooks}
use Rattle.quick_cache_model.specs.declared.calls.call.Call.{Call}
use Rattle.quick_cache_model.specs.declared.calls.reply.Reply.{Reply}
use Rattle.quick_cache_model.specs.Answered.{replies_of}
use Rattle.quick_cache_model.specs.CacheStep.{CacheStep}
use Rattle.quick_cache_model.specs.CacheRun.{CacheRun}
use Rattle.quick_cache_model.specs.Fates.{Fate, Comes, Changes, Leaves, residents}
use Rattle.quick_cache_runs.specs.Fates.{Befalls, last_written}
use Rattle.quick_cache_runs.specs.Books.{Book, Follows, IsBookOf, IsBalanced}

module _ {K V : Type 0} where
  -- how many pairs come
  abbrev pub arrivals : List (Fate K V) → ℕ
  arrivals [] = 0
  arrivals (Comes key value ∷ fates) = 1 + arrivals fates
  arrivals (Changes key value left ∷ fates) = arrivals fates
  arrivals (Leaves key value ∷ fates) = arrivals fates

  -- how many leave
  abbrev pub departures : List (Fate K V) → ℕ
  departures [] = 0
  departures (Comes key value ∷ fates) = departures fates
  departures (Changes key value left ∷ fates) = departures fates
  departures (Leaves key value ∷ fates) = 1 + departures fates

-- each of these pairs whose key passes the test has this value
abbrev pub IsLastOf : {K V : Type 0} → (K → Bool) → Option V → List (K × V) → Type 0
IsLastOf test last pairs = AllByRecursion (λ pair. test pair.0 ≡ true → last ≡ Some pair.1) pairs

module _ {K V F M : Type 0} (rules : Rules K V) (equal : K → K → Bool)
    (shows_key : K → K → Type 0) (shows : V → V → Type 0) (answers : F → K → V → Bool) where
  -- A run with its book: before and after each call the lives are the residents, and the book
  -- follows what befalls pairs in the call. The fates are those of all calls.
  pub data NumberedRun : CacheState K V → Book K V → List (Call K V F) → List (Reply K V M)
      → List (HookCall K V) → List (Fate K V) → CacheState K V → Book K V → Type 0 where
    stops : (state : CacheState K V) (book : Book K V) → IsBookOf state book
        → NumberedRun state book [] [] [] [] state book
    goes_on : (old mid new : CacheState K V) (first between last : Book K V) (call : Call K V F)
        (reply : Reply K V M) (calls : List (Call K V F)) (replies : List (Reply K V M))
        (hook_calls more : List (HookCall K V)) (fates rest : List (Fate K V))
        → IsBookOf old first
        → CacheStep rules equal shows_key shows answers old call reply hook_calls mid
        → Befalls equal answers old call reply hook_calls fates → Follows first fates between
        → NumberedRun mid between calls replies more rest new last
        → NumberedRun old first (call ∷ calls) (reply ∷ replies) (hook_calls ++ more)
        (fates ++ rest) new last

  -- What a run keeps. It has a book, whose numbers are each of one resident or have ended once. And
  -- a resident has the value that was last written for its key, by a call, through a reference or
  -- by a hook; where none was in this run, it has the value that it had at first.
  pub record Conserves (old : CacheState K V) (first : Book K V) (calls : List (Call K V F))
      (replies : List (Reply K V M)) (hook_calls : List (HookCall K V))
      (new : CacheState K V) : Type 0 where
    pub last : Book K V
    pub fates : List (Fate K V)
    pub run : NumberedRun old first calls replies hook_calls fates new last
    pub of_residents : IsBookOf new last
    pub balanced : IsBalanced last
    pub values : (key : K) (value : Option V)
        → IsLastOf (equal key) value (residents old)
        → IsLastOf (equal key) (last_written (equal key) value fates) (residents new)

  -- The calls that were made, be they all or those for whose replies there was room, keep their
  -- pairs, from each balanced book of the first state. Their hooks are those that led the request
  -- state from the first to the last.
  pub record ConservesCalls {S A : Type 0} (hooks : Hooks K V S) (old : CacheState K V) (first : S)
      (calls : List (Call K V F))
      (result : Result (Vec (Reply K V M) A) (Vec (Reply K V M) A × Vec (Call K V F) A))
      (new : CacheState K V) (last : S) : Type 0 where
    pub made : List (Call K V F)
    pub unmade : List (Call K V F)
    pub parts : calls ≡ made ++ unmade
    pub hook_calls : List (HookCall K V)
    pub runs : RunsHooks hooks hook_calls first last
    pub conserves : (book : Book K V) → IsBookOf old book → IsBalanced book
        → Conserves old book made (replies_of result) hook_calls new

module _ (K V : Type 0) where
  -- A book can be opened for every state: its residents are numbered, and nothing has ended.
  abbrev pub BooksCanBeOpened : Type 0
  BooksCanBeOpened = (state : CacheState K V)
      → (book : Book K V) × IsBookOf state book × (book.ended ≡ []) × IsBalanced book

  -- In a valid state each key has a value, or none.
  abbrev pub ValuesCanBeFound : (K → K → Bool) → Type 0
  ValuesCanBeFound equal = (state : CacheState K V) → IsValid equal state → (key : K)
      → (value : Option V) × IsLastOf (equal key) value (residents state)

  -- A book that follows fates loses no pair and makes none: those that were resident at first and
  -- those that came are as many as those that are resident at last and those that left.
  abbrev pub PairsAddUp : Type 0
  PairsAddUp = (old new : CacheState K V) (first last : Book K V) (fates : List (Fate K V))
      → IsBookOf old first → Follows first fates last → IsBookOf new last
      → length (residents old) + arrivals fates ≡ length (residents new) + departures fates

  -- Every run from a valid state keeps its pairs, from every balanced book of that state, whatever
  -- the rules are, and what predicates answer.
  abbrev pub RunsConserve : (F M : Type 0) → (K → K → Bool) → (K → K → Type 0) → (V → V → Type 0)
      → (ℕ → Type 0) → Type 0
  RunsConserve F M equal shows_key shows may_count =
      (hash : K → ℕ) (weight : K → V → ℕ) (pinned : K → V → Bool) (answers : F → K → V → Bool)
      (old new : CacheState K V) (calls : List (Call K V F)) (replies : List (Reply K V M))
      (hook_calls : List (HookCall K V))
      → CacheRun
      (record { hash = hash; weight = weight; pinned = pinned; may_count = may_count })
      equal shows_key shows answers old calls replies hook_calls new
      → IsValid equal old
      → (first : Book K V) → IsBookOf old first → IsBalanced first
      → Conserves
      (record { hash = hash; weight = weight; pinned = pinned; may_count = may_count })
      equal shows_key shows answers old first calls replies hook_calls new
