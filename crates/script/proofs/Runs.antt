-- A run of bytes at the front of a text is no longer than the text.
use Rattle.std.proofs.lemmas.List.Sums.{prefix_len-le-length}

pub ruleset runs = (prefix_len-le-length)
