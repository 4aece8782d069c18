use Rattle.native_arrays.proofs.sizes.+range.Given as goal

abbrev pub decreases-range : goal.decreases-range
decreases-range l = l.dimension
