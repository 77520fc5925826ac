-- Bodies of messages: reading them, and the reasons for which they are refused.
pub mod BodiesLemmas
pub mod BodyProgramLemmas
pub mod BodySteps
pub mod Layouts
pub mod MessageReasons
pub mod MessageScanLemmas
pub mod SpelledLemmas
pub mod ValueNames
pub mod ValueLemmas
