-- Pairs that fates lead to other pairs: where fates follow fates, and beside other pairs.
use Rattle.std.proofs.Common.{List, [], ◌∷◌, ◌++◌, map, IsPermutation, sym, subst}
use Rattle.std.proofs.lemmas.List.{append-nil, map-append}
use Rattle.std.proofs.lemmas.List.Sorted.{IsPermutation-refl, IsPermutation-trans, IsPermutation-cons, IsPermutation-middle}
use Rattle.quick_cache_model.specs.Hooks.{HookCall}
use Rattle.quick_cache_model.specs.Fates.{Fate, Comes, Changes, Leaves, leaving, fate_of}
use Rattle.quick_cache_model.specs.Leads.{Leads, Tells}

module _ {K V : Type 0} where
  -- the same pairs
  pub Leads-same : (pairs : List (K × V)) → Leads pairs [] pairs
  Leads-same pairs = Leads.rests pairs pairs (IsPermutation-refl pairs)

  -- from another order
  pub Leads-from : (first pairs : List (K × V)) {fates : List (Fate K V)} {others : List (K × V)}
      → IsPermutation first pairs → Leads pairs fates others → Leads first fates others
  Leads-from first pairs order (Leads.rests _ others more) =
      Leads.rests first others (IsPermutation-trans first pairs others order more)
  Leads-from first pairs order (Leads.comes key value _ fates others leads) =
      Leads.comes key value first fates others
      (Leads-from ((key, value) ∷ first) ((key, value) ∷ pairs)
      (IsPermutation-cons (key, value) first pairs order) leads)
  Leads-from first pairs order (Leads.changes key value left _ rest fates others more leads) =
      Leads.changes key value left first rest fates others
      (IsPermutation-trans first pairs ((key, value) ∷ rest) order more) leads
  Leads-from first pairs order (Leads.leaves key value _ rest fates others more leads) =
      Leads.leaves key value first rest fates others
      (IsPermutation-trans first pairs ((key, value) ∷ rest) order more) leads

  -- fates and more fates
  pub Leads-append : {pairs mid others : List (K × V)} {fates more : List (Fate K V)}
      → Leads pairs fates mid → Leads mid more others → Leads pairs (fates ++ more) others
  Leads-append (Leads.rests pairs mid order) rest = Leads-from pairs mid order rest
  Leads-append {others = others} {more = more} (Leads.comes key value pairs fates _ leads) rest =
      Leads.comes key value pairs (fates ++ more) others (Leads-append leads rest)
  Leads-append {others = others} {more = more}
      (Leads.changes key value left pairs front fates _ order leads) rest =
      Leads.changes key value left pairs front (fates ++ more) others order
      (Leads-append leads rest)
  Leads-append {others = others} {more = more}
      (Leads.leaves key value pairs front fates _ order leads) rest =
      Leads.leaves key value pairs front (fates ++ more) others order (Leads-append leads rest)

  -- to another order
  pub Leads-to : {pairs : List (K × V)} {fates : List (Fate K V)} (mid others : List (K × V))
      → IsPermutation mid others → Leads pairs fates mid → Leads pairs fates others
  Leads-to {pairs} {fates} mid others order leads =
      subst (λ all. Leads pairs all others) (append-nil fates)
      (Leads-append leads (Leads.rests mid others order))

  -- two pairs change places
  pub swapped : (first second : K × V) (pairs : List (K × V))
      → IsPermutation (first ∷ second ∷ pairs) (second ∷ first ∷ pairs)
  swapped first second pairs = IsPermutation-middle (first ∷ []) second pairs

  -- beside a pair that no fate befalls
  pub Leads-beside : (pair : K × V) {pairs others : List (K × V)} {fates : List (Fate K V)}
      → Leads pairs fates others → Leads (pair ∷ pairs) fates (pair ∷ others)
  Leads-beside pair (Leads.rests pairs others order) =
      Leads.rests (pair ∷ pairs) (pair ∷ others) (IsPermutation-cons pair pairs others order)
  Leads-beside pair (Leads.comes key value pairs fates others leads) =
      Leads.comes key value (pair ∷ pairs) fates (pair ∷ others)
      (Leads-from ((key, value) ∷ pair ∷ pairs) (pair ∷ (key, value) ∷ pairs)
      (swapped (key, value) pair pairs) (Leads-beside pair leads))
  Leads-beside pair (Leads.changes key value left pairs rest fates others order leads) =
      Leads.changes key value left (pair ∷ pairs) (pair ∷ rest) fates (pair ∷ others)
      (IsPermutation-trans (pair ∷ pairs) (pair ∷ (key, value) ∷ rest)
      ((key, value) ∷ pair ∷ rest)
      (IsPermutation-cons pair pairs ((key, value) ∷ rest) order)
      (swapped pair (key, value) rest))
      (Leads-from ((key, left) ∷ pair ∷ rest) (pair ∷ (key, left) ∷ rest)
      (swapped (key, left) pair rest) (Leads-beside pair leads))
  Leads-beside pair (Leads.leaves key value pairs rest fates others order leads) =
      Leads.leaves key value (pair ∷ pairs) (pair ∷ rest) fates (pair ∷ others)
      (IsPermutation-trans (pair ∷ pairs) (pair ∷ (key, value) ∷ rest)
      ((key, value) ∷ pair ∷ rest)
      (IsPermutation-cons pair pairs ((key, value) ∷ rest) order)
      (swapped pair (key, value) rest))
      (Leads-beside pair leads)

  -- a pair that leaves at once
  pub Leads-leaves : (pair : K × V) {pairs others : List (K × V)} {fates : List (Fate K V)}
      → Leads pairs fates others → Leads (pair ∷ pairs) (leaving pair ∷ fates) others
  Leads-leaves pair {pairs} {others} {fates} leads = Leads.leaves pair.0 pair.1 (pair ∷ pairs)
      pairs fates others (IsPermutation-refl (pair ∷ pairs)) leads

  -- a pair whose value changes at once
  pub Leads-changes : (key : K) (value left : V) {pairs others : List (K × V)}
      {fates : List (Fate K V)} → Leads ((key, left) ∷ pairs) fates others
      → Leads ((key, value) ∷ pairs) (Changes key value left ∷ fates) others
  Leads-changes key value left {pairs} {others} {fates} leads =
      Leads.changes key value left ((key, value) ∷ pairs) pairs fates others
      (IsPermutation-refl ((key, value) ∷ pairs)) leads

  -- a pair that leaves in between
  pub Leads-between : (pair : K × V) (pairs : List (K × V)) (front back : List (Fate K V))
      (others : List (K × V)) → Leads pairs (front ++ back) others
      → Leads (pair ∷ pairs) (front ++ leaving pair ∷ back) others
  Leads-between pair pairs [] back others leads = Leads-leaves pair leads
  Leads-between pair pairs (Comes key value ∷ front) back others (Leads.comes _ _ _ _ _ leads) =
      Leads.comes key value (pair ∷ pairs) (front ++ leaving pair ∷ back) others
      (Leads-from ((key, value) ∷ pair ∷ pairs) (pair ∷ (key, value) ∷ pairs)
      (swapped (key, value) pair pairs)
      (Leads-between pair ((key, value) ∷ pairs) front back others leads))
  Leads-between pair pairs (Changes key value left ∷ front) back others
      (Leads.changes _ _ _ _ rest _ _ order leads) =
      Leads.changes key value left (pair ∷ pairs) (pair ∷ rest) (front ++ leaving pair ∷ back)
      others
      (IsPermutation-trans (pair ∷ pairs) (pair ∷ (key, value) ∷ rest)
      ((key, value) ∷ pair ∷ rest)
      (IsPermutation-cons pair pairs ((key, value) ∷ rest) order)
      (swapped pair (key, value) rest))
      (Leads-from ((key, left) ∷ pair ∷ rest) (pair ∷ (key, left) ∷ rest)
      (swapped (key, left) pair rest)
      (Leads-between pair ((key, left) ∷ rest) front back others leads))
  Leads-between pair pairs (Leaves key value ∷ front) back others
      (Leads.leaves _ _ _ rest _ _ order leads) =
      Leads.leaves key value (pair ∷ pairs) (pair ∷ rest) (front ++ leaving pair ∷ back) others
      (IsPermutation-trans (pair ∷ pairs) (pair ∷ (key, value) ∷ rest)
      ((key, value) ∷ pair ∷ rest)
      (IsPermutation-cons pair pairs ((key, value) ∷ rest) order)
      (swapped pair (key, value) rest))
      (Leads-between pair rest front back others leads)

  -- these pairs leave
  pub Leads-all : (pairs others : List (K × V)) → Leads (pairs ++ others) (map leaving pairs) others
  Leads-all [] others = Leads-same others
  Leads-all (pair ∷ pairs) others = Leads-leaves pair (Leads-all pairs others)

  -- hook calls and more of them
  pub Tells-append : {pairs mid others : List (K × V)} (calls more : List (HookCall K V))
      → Tells pairs calls mid → Tells mid more others → Tells pairs (calls ++ more) others
  Tells-append {pairs} {mid} {others} calls more first rest =
      subst (λ fates. Leads pairs fates others) (sym (map-append fate_of calls more))
      (Leads-append first rest)
