-- Lemmas of patched bodies.
pub mod PatchesLemmas
