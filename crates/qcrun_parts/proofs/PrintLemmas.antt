-- Texts that are printed one behind another.
use Rattle.std.proofs.Common.{◌≡◌, ℕ, List, [], ◌∷◌, ◌++◌, Option, Some, None, refl, sym, ap, subst, ◌∙◌, append_assoc}
use Rattle.std.proofs.lemmas.List.{append-nil}
use Rattle.std.specs.Fmt.{decimal}
use Rattle.std.specs.Io.KnownBytes.{Appends}
use Rattle.std.specs.Prelude.{codes}
use Rattle.qcrun_parts.specs.declared.events.Event.{Event}
use Rattle.qcrun_parts.specs.Events.{event_text}
use Rattle.qcrun_parts.specs.Printed.{item_text, items_text, spaced_number, ghosts_text, line_of, event_lines, pair_text, pairs_text}

-- nothing is appended where nothing is written
pub Appends-nothing : (bytes : Option (List ℕ)) → Appends bytes bytes []
Appends-nothing None = tt
Appends-nothing (Some bytes) = sym (append-nil bytes)

-- two texts are appended, one behind the other
pub Appends-both : (old mid new : Option (List ℕ)) (first second : List ℕ)
    → Appends old mid first → Appends mid new second → Appends old new (first ++ second)
Appends-both None mid new first second a b = tt
Appends-both (Some old) None new first second a b = absurd a
Appends-both (Some old) (Some mid) None first second a b = absurd b
Appends-both (Some old) (Some mid) (Some new) first second a b =
    b ∙ rw a (append_assoc old first second)

-- part of a text is printed, and this is left
pub record HasPrinted (old now : Option (List ℕ)) (all left : List ℕ) : Type 0 where
  pub printed : List ℕ
  pub appended : Appends old now printed
  pub splits : all ≡ printed ++ left

-- one part more
pub HasPrinted-more : (old mid now : Option (List ℕ)) (all left part rest : List ℕ)
    → HasPrinted old mid all left → left ≡ part ++ rest → Appends mid now part
    → HasPrinted old now all rest
HasPrinted-more old mid now all left part rest has split more = record {
  printed = has.printed ++ part;
  appended = Appends-both old mid now has.printed part has.appended more;
  splits = has.splits ∙ rw split (sym (append_assoc has.printed part rest));
}

-- nothing is left
pub HasPrinted-all : (old now : Option (List ℕ)) (all left : List ℕ) → HasPrinted old now all left
    → left ≡ [] → Appends old now all
HasPrinted-all old now all left has none =
    let whole : all ≡ has.printed = has.splits ∙ rw none (append-nil has.printed) in
    rw whole has.appended

-- the text of a ring, from its first item on
pub items_text-cons : (item : ℕ × ℕ × ℕ) (items : List (ℕ × ℕ × ℕ))
    → items_text (item ∷ items) ≡ item_text item ++ items_text items
unfolding items_text
items_text-cons item items = refl

pub items_text-nil : (items : List (ℕ × ℕ × ℕ)) → items ≡ [] → items_text items ≡ []
unfolding items_text
items_text-nil items none = ap items_text none

-- the text of ghosts, from the first on
pub ghosts_text-cons : (hash : ℕ) (hashes : List ℕ)
    → ghosts_text (hash ∷ hashes) ≡ spaced_number hash ++ ghosts_text hashes
unfolding ghosts_text
ghosts_text-cons hash hashes = refl

pub ghosts_text-nil : (hashes : List ℕ) → hashes ≡ [] → ghosts_text hashes ≡ []
unfolding ghosts_text
ghosts_text-nil hashes none = ap ghosts_text none

-- the text of pairs, from the first on
pub pairs_text-cons : (pair : ℕ × ℕ) (pairs : List (ℕ × ℕ))
    → pairs_text (pair ∷ pairs) ≡ pair_text pair ++ pairs_text pairs
unfolding pairs_text
pairs_text-cons pair pairs = refl

pub pairs_text-nil : (pairs : List (ℕ × ℕ)) → pairs ≡ [] → pairs_text pairs ≡ []
unfolding pairs_text
pairs_text-nil pairs none = ap pairs_text none

-- a pair's text is appended, as its parts are printed
pub Appends-pair : (old new : Option (List ℕ)) (key value : ℕ)
    → Appends old new (codes " " ++ (decimal key ++ (codes ":" ++ decimal value)))
    → Appends old new (pair_text (key, value))
Appends-pair old new key value appended =
    subst (Appends old new) (ap (λ text. 32 ∷ text)
    (sym (append_assoc (decimal key) (codes ":") (decimal value)))) appended

-- the lines of events, from the first on
pub event_lines-cons : (event : Event) (events : List Event)
    → event_lines (event ∷ events) ≡ line_of (event_text event) ++ event_lines events
unfolding event_lines
event_lines-cons event events = refl

pub event_lines-nil : (events : List Event) → events ≡ [] → event_lines events ≡ []
unfolding event_lines
event_lines-nil events none = ap event_lines none

-- an item's text is appended, as its parts are printed
pub Appends-item : (old new : Option (List ℕ)) (key value mark : ℕ)
    → Appends old new (codes " " ++ (decimal key
    ++ (codes ":" ++ (decimal value ++ (codes ":" ++ decimal mark)))))
    → Appends old new (item_text (key, value, mark))
Appends-item old new key value mark appended =
    let third = codes ":" ++ decimal mark in
    let second = decimal value ++ third in
    let parts : item_text (key, value, mark) ≡ codes " " ++ (decimal key ++ (codes ":" ++ second)) =
    ap (λ text. 32 ∷ text) (append_assoc ((decimal key ++ codes ":") ++ decimal value) (codes ":")
    (decimal mark)
    ∙ append_assoc (decimal key ++ codes ":") (decimal value) third
    ∙ append_assoc (decimal key) (codes ":") second) in
    subst (Appends old new) (sym parts) appended
