-- Messages without the names of machines, and with masked texts.
pub mod TextsLemmas
pub mod TextSpellings
pub mod UnnamedLemmas
pub mod UnnamedRenamings
pub mod UnnamedBodyLemmas
pub mod UnnamedSpellings
pub mod UnnamedCalls
