mod CaptureLemmas
mod ConversionLemmas
mod JobLemmas
mod LineLemmas
mod PortsLemmas
mod PrintedLemmas
