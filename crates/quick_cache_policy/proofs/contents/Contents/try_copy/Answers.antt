use Rattle.quick_cache_model.specs.Hashing.{hash_of}
use Rattle.quick_cache_policy.proofs.CopyLemmas.{state_of-copied, IsSound-copied}
use Rattle.quick_cache_policy.proofs.contents.Contents.try_copy.Goals as goal

-- the copied lists, with the same numbers
pub returns-clause-copies : goal.returns-clause-copies
returns-clause-copies g c =
    state_of-copied g.K.Clone.is_clone g.V.Clone.is_clone
    (λ key. hash_of g.B.BuildHasher g.B.Hasher.Hasher c.args.builder.now (g.K.Hash.hash_input key))
    g.P.SharedPlaceholder.ticket_of
    c.args.self.now c.in_ok-try_clone.field-0 c.in_ok-try_clone.ensures.copies

-- what holds of the keys holds of their clones
pub returns-clause-sound : goal.returns-clause-sound
returns-clause-sound g c =
    IsSound-copied g.K.Clone.is_clone g.V.Clone.is_clone
    (λ key. hash_of g.B.BuildHasher g.B.Hasher.Hasher c.args.builder.now (g.K.Hash.hash_input key))
    g.P.SharedPlaceholder.ticket_of
    c.args.self.now c.in_ok-try_clone.field-0 c.in_ok-try_clone.ensures.copies g.K.PartialEq.eq
    g.met.K.Eq.laws c.requires.keys c.default.result c.default-2.result
