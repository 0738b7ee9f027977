pub mod FitPlans
