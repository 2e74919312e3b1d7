pub mod WetLines
pub mod EdgeLines
pub mod Sizes
pub mod LinesLeft
pub mod Turns
pub mod BoxLeads
pub mod BoxOf
pub mod BoxLaws
