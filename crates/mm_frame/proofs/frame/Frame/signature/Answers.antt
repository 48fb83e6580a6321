use Rattle.mm_frame.proofs.frame.Frame.signature.Goals as goal

pub returns-clause-typed : goal.returns-clause-typed
returns-clause-typed c =
    rw (← c.self.view_is) (c.signature.ensures _ _ c.self.invariant.1 c.self.invariant.2).typed

pub returns-clause-pairs : goal.returns-clause-pairs
returns-clause-pairs c =
    rw (← c.self.view_is) (c.signature.ensures _ _ c.self.invariant.1 c.self.invariant.2).pairs

pub returns-clause-indices : goal.returns-clause-indices
returns-clause-indices c = (c.signature.ensures _ _ c.self.invariant.1 c.self.invariant.2).indices

pub returns-clause-conclusion : goal.returns-clause-conclusion
returns-clause-conclusion c =
    rw (← c.self.view_is) (c.signature.ensures _ _ c.self.invariant.1 c.self.invariant.2).conclusion

pub returns-clause-patterns : goal.returns-clause-patterns
returns-clause-patterns c =
    rw (← c.self.view_is) (c.signature.ensures _ _ c.self.invariant.1 c.self.invariant.2).patterns
