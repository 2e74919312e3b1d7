pub mod Spelled
pub mod SectionLaws
pub mod StartLaws
pub mod TextSizes
pub mod StartSizes
pub mod PlanLaws
pub mod BudgetLaws
pub mod NamesLaws
